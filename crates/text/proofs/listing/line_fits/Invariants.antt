-- `line_fits` meets its contract. The invariant: whether the bytes so far are digits.
use mathlib.Core.Path.{◌≡◌}
use lib.Dec.{ltb}
use Rattle.rules.specs.Lists.{every_to}
use Rattle.rules.specs.Pages.{digit_on}
use Rattle.text.proofs.listing.line_fits.Given as goal

abbrev pub invariant-loop-byte : goal.invariant-loop-byte
invariant-loop-byte l = l.fits ≡ every_to (λ j. ltb (digit_on l.line 0 j) 16) l.byte-index
