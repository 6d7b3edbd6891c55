-- `heading_words` meets its contract, by the test of the definition. A count of 32 bits leaves the product its room.
use mathlib.Core.Path.{refl}
use native.Mathlib.Omega.{arith}
use borrow.Author.Tests.{eq-eqb, ne_eqb}
use Rattle.rules.specs.Sheet.{layout_for}
use Rattle.sheet.proofs.heading.heading_words.Goals as goal

pub returns-then-words-count : goal.returns-then-words-count
unfolding layout_for
returns-then-words-count c = rw (eq-eqb _ _ c.if-words-count.true) (refl, omega arith)

pub returns : goal.returns
unfolding layout_for
returns c = rw (ne_eqb _ _ c.if-words-count.false) (refl, omega arith)
