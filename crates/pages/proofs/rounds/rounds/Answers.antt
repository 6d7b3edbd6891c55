use native.Mathlib.Omega.{arith}
use Rattle.rules.specs.Lists.{joined_to}
use Rattle.text.proofs.Writing.{nothing_put}
use Rattle.pages.proofs.Joining.{joined_more}
use Rattle.pages.proofs.rounds.rounds.Goals as goal

pub loop-r-init : goal.loop-r-init
unfolding joined_to
loop-r-init c = nothing_put c.args.out.now (omega arith)

pub loop-r-preserved : goal.loop-r-preserved
loop-r-preserved c = joined_more _ 7600 c.loop-r.r c.loop-r.invariant c.round.ensures
