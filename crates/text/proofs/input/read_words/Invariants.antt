-- `read_words` meets its contract. The invariant, `Painted`: the first i words are read, the others as they were.
use Rattle.rules.proofs.Painting.{Painted}
use Rattle.rules.specs.Listing.{word_in}
use Rattle.text.proofs.input.read_words.Given as goal

abbrev pub invariant-loop-i : goal.invariant-loop-i
invariant-loop-i l = Painted (word_in l.bytes) l.initial.words l.words l.i
