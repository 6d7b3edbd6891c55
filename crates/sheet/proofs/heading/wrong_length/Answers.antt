-- `wrong_length` meets its contract, by its tests: the count is tested first, so that the product cannot overflow. In either layout an
-- order has three words.
use native.Mathlib.Omega.{arith}
use Rattle.rules.specs.Sheet.{length_fits}
use Rattle.rules.proofs.Tests.{tests}
use Rattle.sheet.proofs.Laws.{place_in}
use Rattle.sheet.proofs.heading.wrong_length.Goals as goal

pub returns-then-heading-gt120 : goal.returns-then-heading-gt120
unfolding length_fits
returns-then-heading-gt120 c = search tests

pub overflow_add-result : goal.overflow_add-result
overflow_add-result c = omega (arith, c.heading_words.ensures.1)

pub returns-else-heading-gt120 : goal.returns-else-heading-gt120
unfolding length_fits
returns-else-heading-gt120 c = rw (place_in, ← c.heading_words.ensures.0) (search tests)
