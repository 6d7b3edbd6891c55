-- `read_result` meets its contract. The invariant, `Painted`: the first i words are read, the others as they were.
use Rattle.rules.proofs.Painting.{Painted}
use Rattle.rules.specs.Pages.{word_on}
use Rattle.text.proofs.listing.read_result.Given as goal

abbrev pub invariant-loop-i : goal.invariant-loop-i
invariant-loop-i l = Painted (word_on l.text) l.initial.words l.words l.i
