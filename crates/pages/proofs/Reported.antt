-- The places of an accepted sheet begin with its orders, so the rounds that are put from these are the rounds of the sheet's result.
use mathlib.Core.List.{List, ◌++◌}
use mathlib.Core.Path.{◌≡◌, ap}
use Prim.Native.Nat.{ℕ, ◌<◌}
use Rattle.rules.specs.Lists.{joined_to}
use Rattle.rules.specs.Opening.{Round}
use Rattle.rules.specs.Pages.{order_text, summary_text, round_text}
use Rattle.rules.specs.Result.{round_said_for, round_said}
use Rattle.rules.specs.declared.Sheet.{Sheet}
use Rattle.run.proofs.Accepted.{own_order, count-is}
use Rattle.sheet.specs.Reading.{AcceptedAs}
use Rattle.pages.proofs.Joining.{joined_same}
use Rattle.pages.specs.Steps.{line_from, round_from}

module _ {ws : List ℕ} {s : Sheet} (a : AcceptedAs ws s) where
  order_reported : (x : Round) (k : ℕ) → k < s.heading.count → order_text ws x k ≡ line_from s.orders x.fills k
  unfolding order_text
  order_reported x k own = rw (own_order a k own)

  round_reported : (rs : List ℕ) (r : ℕ) → round_text ws rs r ≡ round_from s.heading.count s.orders rs r
  unfolding round_text round_said round_from
  round_reported rs r =
      rw (← count-is a)
      (ap (λ lines. summary_text r (round_said_for s.heading.count rs r) ++ lines) (joined_same _ _ s.heading.count (order_reported (round_said_for s.heading.count rs r))))

  pub rounds_reported : (rs : List ℕ) (n : ℕ) → joined_to (round_text ws rs) n ≡ joined_to (round_from s.heading.count s.orders rs) n
  rounds_reported rs n = joined_same _ _ n (λ r there. round_reported rs r)
