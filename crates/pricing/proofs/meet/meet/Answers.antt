use native.Mathlib.Omega.{arith}
use Rattle.pricing.proofs.Meeting.{one_passed, walked_none, walked_more, walked_all}
use Rattle.pricing.proofs.meet.meet.Goals as goal

pub loop-bid-init : goal.loop-bid-init
loop-bid-init c = walked_none _ _

pub loop-bid-smaller : goal.loop-bid-smaller
loop-bid-smaller c =
    let one = one_passed _ _ _ _ c.passing.ensures.0 c.passing-in-Some.ensures.0 in
    omega (arith, c.in-Some.ensures.buy, c.in-Some.ensures.sell, one)

pub loop-bid-preserved : goal.loop-bid-preserved
loop-bid-preserved c = walked_more c.loop-bid.invariant c.in-Some.ensures c.amount_in.ensures.0 c.amount_in-in-Some.ensures.0 c.min.ensures
    c.passing.ensures.0 c.passing.ensures.1 c.passing-in-Some.ensures.0 c.passing-in-Some.ensures.1

pub returns : goal.returns
returns c = walked_all c.loop-bid.invariant c.in_default.ensures
