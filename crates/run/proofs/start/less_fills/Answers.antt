use Rattle.std.proofs.Common.{rules}
use Rattle.run.proofs.Made.{listed_made}
use Rattle.run.specs.Starts.{less_fills}
use Rattle.run.proofs.start.less_fills.Goals as goal

pub returns : goal.returns
unfolding less_fills
returns c = listed_made _ _ (λ i y q l called. search rules) (record { 0 = 0 }) c.from_fn.ensures.items
