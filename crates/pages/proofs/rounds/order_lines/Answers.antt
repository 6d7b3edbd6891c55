use native.Mathlib.Omega.{arith}
use Rattle.rules.specs.Lists.{joined_to}
use Rattle.text.proofs.Writing.{nothing_put}
use Rattle.pages.proofs.Telling.{fill_at}
use Rattle.pages.proofs.Joining.{joined_more}
use Rattle.pages.proofs.rounds.order_lines.Goals as goal

pub loop-k-init : goal.loop-k-init
unfolding joined_to
loop-k-init c = nothing_put c.args.out.now (omega arith)

pub loop-k-preserved : goal.loop-k-preserved
loop-k-preserved c = joined_more _ 60 c.loop-k.k c.loop-k.invariant (rw (c.word_of.ensures, fill_at c.args.fills.now c.loop-k.k) at c.order.ensures)
