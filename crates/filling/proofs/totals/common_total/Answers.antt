use native.Mathlib.Omega.{arith}
use Rattle.filling.proofs.Walk.{walk_starts, sell_steps, buy_steps, walk_ends}
use Rattle.filling.proofs.totals.common_total.Goals as goal

pub walk-init : goal.walk-init
walk-init c = walk_starts c.whole-wanted.ensures c.whole-offered.ensures c.min.ensures c.lowered-buy.ensures c.lowered-sell.ensures

pub loop-sell-preserved : goal.loop-sell-preserved
loop-sell-preserved c = sell_steps c.loop-sell.invariant c.loop-sell-test.true c.lowered-sell-in-loop-sell.ensures

pub walk-preserved : goal.walk-preserved
walk-preserved c = buy_steps c.loop-sell.invariant (omega (arith, c.loop-sell-test.false)) c.lowered-buy-in-walk.ensures

pub returns : goal.returns
returns c = walk_ends c.loop-sell.invariant c.if-sell-buy.true
