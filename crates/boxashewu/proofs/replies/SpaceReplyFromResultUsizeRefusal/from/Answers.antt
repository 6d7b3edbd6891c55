-- `from` meets its contract: the first words of a space are as many as counted.
use native.Mathlib.Omega.{arith}
use Rattle.rules.proofs.Lists.{length-listed}
use Rattle.boxashewu.proofs.replies.SpaceReplyFromResultUsizeRefusal.from.Goals as goal

pub returns : goal.returns
returns c = λ space. grind (arith, length-listed)
