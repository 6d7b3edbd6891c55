use Rattle.rules.proofs.Painting.{painted_none, painted_more, painted_length, painted_all}
use Rattle.rules.specs.Listing.{sheet_in}
use mathlib.Core.Path.{◌∙◌}
use Prim.Native.Nat.{◌/◌}
use lib.ListN.{length}
use native.Mathlib.Omega.{arith}
use Rattle.text.proofs.Chunks.{chunk_at, four_bytes}
use Rattle.text.proofs.input.read_words.Goals as goal

pub loop-i-init : goal.loop-i-init
loop-i-init c = painted_none _ _

pub loop-i-preserved : goal.loop-i-preserved
loop-i-preserved c = let bytes = c.args.bytes.now in
    let four = rw (c.as_chunks.ensures.front, chunk_at 4 (length bytes / 4) bytes c.loop-i.i (omega arith)) at c.from_be_bytes.ensures in
    painted_more c.loop-i.invariant 0 (omega arith) (four ∙ four_bytes bytes c.loop-i.i)

pub returns : goal.returns
unfolding sheet_in
returns c = let long = painted_length c.loop-i.invariant in
    painted_all c.loop-i.invariant (omega arith) (omega arith)
