-- `order` meets its contract: an order that gets nothing has no line, and that of another is five texts, one behind the other.
use native.Mathlib.Omega.{arith}
use borrow.Author.Tests.{eq-eqb, ne_eqb}
use Rattle.rules.specs.Pages.{order_line}
use Rattle.text.proofs.Writing.{nothing_put, ◌then◌, ◌within◌}
use Rattle.pages.proofs.rounds.order.Goals as goal

pub returns-then-pieces-ne0 : goal.returns-then-pieces-ne0
unfolding order_line
returns-then-pieces-ne0 c = rw (ne_eqb _ 0 c.if-pieces-ne0.true, ← c.from.ensures)
    (c.put.ensures then c.number.ensures then c.trade.ensures then c.number-then-pieces-ne0.ensures then c.put-then-pieces-ne0.ensures within omega arith)

pub returns-else-pieces-ne0 : goal.returns-else-pieces-ne0
unfolding order_line
returns-else-pieces-ne0 c = rw (eq-eqb _ 0 c.if-pieces-ne0.false) (nothing_put c.args.out.now (omega arith) within omega arith)
