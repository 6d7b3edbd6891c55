use mathlib.Core.Path.{◌≡◌, sym, ◌∙◌}
use Prim.Native.Nat.{◌+◌, ◌-◌}
use native.Mathlib.Omega.{arith}
use Rattle.filling.proofs.Reaching.{down_room, down_more, down_splits, down_stays, down_all}
use Rattle.filling.proofs.totals.Reached.lowered.Goals as goal

pub overflow_sub-before : goal.overflow_sub-before
overflow_sub-before c = down_room c.loop-i.invariant c.loop-i-test.true (rw c.deref.ensures.0 at c.amount_in.ensures.0)

pub returns-then-splits : goal.returns-then-splits
returns-then-splits c =
    let own = rw c.deref.ensures.0 at c.amount_in.ensures.0 in
    let whole = rw c.deref.ensures.0 at c.splits.ensures in
    down_splits c.loop-i.invariant c.loop-i-test.true own c.if-before-total.true (sym whole ∙ c.if-splits.true)

pub returns-then-before-total : goal.returns-then-before-total
returns-then-before-total c =
    let own = rw c.deref.ensures.0 at c.amount_in.ensures.0 in
    let whole = rw c.deref.ensures.0 at c.splits.ensures in
    let next : c.loop-i.i - 1 + 1 ≡ c.loop-i.i = omega (arith, c.loop-i-test.true) in
    rw next
    (down_stays c.loop-i.invariant c.loop-i-test.true own c.if-before-total.true (sym whole ∙ c.if-splits.false))

pub loop-i-preserved : goal.loop-i-preserved
loop-i-preserved c =
    down_more c.loop-i.invariant c.loop-i-test.true (rw c.deref.ensures.0 at c.amount_in.ensures.0) c.if-before-total.false

pub returns : goal.returns
returns c = down_all c.loop-i.invariant (omega (arith, c.loop-i-test.false))
