-- `read_orders` meets its contract. The invariant, `SoFar`: the orders read so far fill their places, the cursor stands at the
-- next order's first word, and no check of theirs arises.
use Rattle.sheet.proofs.Laws.{SoFar}
use Rattle.sheet.proofs.orders.read_orders.Given as goal

abbrev pub invariant-loop-i : goal.invariant-loop-i
invariant-loop-i l = SoFar l.words l.heading.count l.orders l.cursor l.i
