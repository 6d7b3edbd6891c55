use Rattle.std.proofs.Common.{rules}
use native.Mathlib.Omega.{arith}
use Rattle.rules.specs.Listing.{word_lines}
use Rattle.text.proofs.Printing.{lines_put}
use Rattle.text.proofs.Writing.{nothing_put}
use Rattle.text.proofs.printed_lines.write_words.Goals as goal

pub loop-word-init : goal.loop-word-init
unfolding word_lines
loop-word-init c = nothing_put c.args.out.now (omega arith)

pub loop-word-preserved : goal.loop-word-preserved
loop-word-preserved c = lines_put c.args.words.now c.loop-word.word-index (omega arith) c.loop-word.invariant (search rules)
