-- `read_order_words` meets its contract: each step starts where the one before it ended.
use native.Mathlib.Omega.{arith}
use Rattle.sheet.proofs.Laws.{two_on, three_on}
use Rattle.sheet.proofs.orders.read_order_words.Goals as goal

pub step-second-requires : goal.step-second-requires
step-second-requires c = simp c.step-first.ensures (omega arith)

pub step-third-requires : goal.step-third-requires
step-third-requires c = simp (c.step-second.ensures, c.step-first.ensures) (omega arith)

pub returns : goal.returns
returns c = simp (c.step-third.ensures, c.step-second.ensures, c.step-first.ensures, two_on, three_on)
