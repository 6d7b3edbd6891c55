use Rattle.rules.proofs.Tests.{tests}
use Rattle.filling.proofs.Handing.{handed_none, handed_more, handed_enough, handed_end}
use Rattle.filling.proofs.hand_out.Goals as goal

pub loop-entry-init : goal.loop-entry-init
loop-entry-init c = handed_none _ _ (search tests)

pub loop-entry-preserved : goal.loop-entry-preserved
loop-entry-preserved c = handed_more c.loop-entry.invariant c.loop-entry-test.true c.number_in.ensures.0 c.number_in.ensures.1
    c.amount_in.ensures.0 c.share_of.ensures

pub returns-then-total-ahead : goal.returns-then-total-ahead
returns-then-total-ahead c = rw c.deref-entry-items.ensures.0 at (handed_enough c.loop-entry.invariant c.if-total-ahead.true)

pub returns-after-loop-entry : goal.returns-after-loop-entry
returns-after-loop-entry c = rw c.deref-entry-items.ensures.0 at (handed_end c.loop-entry.invariant c.loop-entry-test.false)
