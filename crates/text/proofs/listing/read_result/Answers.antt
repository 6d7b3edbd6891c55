use mathlib.Core.Path.{◌∙◌}
use Prim.Native.Nat.{◌/◌}
use lib.ListN.{length}
use native.Mathlib.Omega.{arith}
use Rattle.rules.proofs.Painting.{painted_none, painted_more, painted_length, painted_all}
use Rattle.rules.specs.Pages.{result_in}
use Rattle.text.proofs.Chunks.{chunk_at}
use Rattle.text.proofs.Reading.{line_listed, line_alone, word_alone}
use Rattle.text.proofs.listing.read_result.Goals as goal

pub loop-i-init : goal.loop-i-init
loop-i-init c = painted_none _ _

pub word_on-requires : goal.word_on-requires
word_on-requires c = let text = c.args.text.now in let i = c.loop-i.i in
    rw (c.as_chunks.ensures.front, chunk_at 9 (length text / 9) text i (omega arith))
    (line_alone text i ∙ line_listed text c.requires.1 i (omega arith))

pub loop-i-preserved : goal.loop-i-preserved
loop-i-preserved c = let text = c.args.text.now in let i = c.loop-i.i in
    let read = rw (c.as_chunks.ensures.front, chunk_at 9 (length text / 9) text i (omega arith)) at c.word_on.ensures in
    painted_more c.loop-i.invariant 0 (omega arith) (read ∙ word_alone text i)

pub returns : goal.returns
unfolding result_in
returns c = let long = painted_length c.loop-i.invariant in
    painted_all c.loop-i.invariant (omega arith) (omega arith)
