-- `purchase` meets its contract: the label and, behind it, what the rules' test says.
use native.Mathlib.Omega.{arith}
use borrow.Author.Tests.{eq-eqb, ne_eqb}
use Rattle.rules.specs.Pages.{purchase_text}
use Rattle.text.proofs.Writing.{◌then◌, ◌within◌}
use Rattle.pages.proofs.rounds.purchase.Goals as goal

pub returns-then-p-eq0 : goal.returns-then-p-eq0
unfolding purchase_text
returns-then-p-eq0 c = rw (eq-eqb _ 0 c.if-p-eq0.true) (c.put.ensures then c.put-then-p-eq0.ensures within omega arith)

pub returns-else-p-eq0 : goal.returns-else-p-eq0
unfolding purchase_text
returns-else-p-eq0 c = rw (ne_eqb _ 0 c.if-p-eq0.false) (c.put.ensures then c.price.ensures within omega arith)
