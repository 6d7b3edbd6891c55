-- `order_from` meets its contract: side and terms are those of its callees.
use Rattle.rules.specs.Sheet.{order_from}
use Rattle.sheet.proofs.orders.order_from.Goals as goal

pub returns : goal.returns
unfolding order_from
returns c = simp (c.side_of-side.ensures, c.terms_of-terms.ensures)
