use native.Mathlib.Omega.{arith}
use Rattle.rules.proofs.Painting.{painted_none, painted_more}
use Rattle.round.proofs.writing.write_fills.Goals as goal

pub loop-k-init : goal.loop-k-init
loop-k-init c = painted_none _ _

pub loop-k-preserved : goal.loop-k-preserved
loop-k-preserved c = painted_more c.loop-k.invariant 0 (omega (arith, c.loop-k.auto.out)) c.word.ensures
