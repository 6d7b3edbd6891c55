-- `uncrossed_price` meets its contract: in each of the four situations the best prices in the band are known.
use mathlib.Core.Path.{◌∙◌}
use Rattle.pricing.proofs.Prices.{Ends, only_supply, only_demand, both_there, neither_there}
use Rattle.pricing.proofs.uncrossed_price.Goals as goal
use Rattle.pricing.proofs.uncrossed_price.Goals.{After-then_some-supplied}

ends : (c : After-then_some-supplied)
    → Ends c.args.heading c.args.next.bid.0 c.args.next.ask.0 c.then_some-demanded.result c.then_some-supplied.result
ends c = record {
  buys = c.then_some-demanded.ensures ∙ rw (c.max.ensures, c.min-highest.ensures);
  sells = c.then_some-supplied.ensures ∙ rw (c.max-lowest.ensures, c.min.ensures);
}

pub returns-in-None-Some : goal.returns-in-None-Some
returns-in-None-Some c = rw c.min-in-None-Some.ensures
    (only_supply (ends (goal.at.returns-in-None-Some c).After-then_some-supplied) _ c.in-None-Some.is-0 c.in-None-Some.is-1)

pub returns-in-Some-None : goal.returns-in-Some-None
returns-in-Some-None c = rw c.max-in-Some-None.ensures
    (only_demand (ends (goal.at.returns-in-Some-None c).After-then_some-supplied) _ c.in-Some-None.is-0 c.in-Some-None.is-1)

pub returns-in-Some-Some : goal.returns-in-Some-Some
returns-in-Some-Some c = rw (c.max-in-Some-Some.ensures, c.min-in-Some-Some.ensures)
    (both_there (ends (goal.at.returns-in-Some-Some c).After-then_some-supplied) _ c.in-Some-Some.is-0 c.in-Some-Some.is-1)

pub returns-in-None-None : goal.returns-in-None-None
returns-in-None-None c = neither_there (ends (goal.at.returns-in-None-None c).After-then_some-supplied) _ c.in-None-None.is-0 c.in-None-None.is-1
