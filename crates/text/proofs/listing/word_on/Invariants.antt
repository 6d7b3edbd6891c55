-- `word_on` meets its contract. The invariant: the number that the digits so far make.
use mathlib.Core.Path.{◌≡◌}
use Rattle.rules.specs.Pages.{digit_on}
use Rattle.text.proofs.Reading.{number_to}
use Rattle.text.proofs.listing.word_on.Given as goal

abbrev pub invariant-loop-byte : goal.invariant-loop-byte
invariant-loop-byte l = l.word ≡ number_to (digit_on l.line 0) l.byte-index
