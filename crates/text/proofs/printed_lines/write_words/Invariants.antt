-- `write_words` meets its contract. The invariant: the lines of the words so far are put.
use Prim.Native.Nat.{◌*◌}
use lib.ListN.{take}
use Rattle.rules.specs.Listing.{word_lines}
use Rattle.text.specs.Writing.{Puts}
use Rattle.text.proofs.printed_lines.write_words.Given as goal

abbrev pub invariant-loop-word : goal.invariant-loop-word
invariant-loop-word l = Puts (9 * l.word-index) (word_lines (take l.word-index l.words)) l.initial.out l.out
