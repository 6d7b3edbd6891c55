-- `read_heading_words` meets its contract: each step starts where the one before it ended.
use native.Mathlib.Omega.{arith}
use Rattle.sheet.proofs.heading.read_heading_words.Goals as goal

pub step-upper-requires : goal.step-upper-requires
step-upper-requires c = simp (c.step-lower.ensures, c.start.ensures) (omega arith)

pub step-last-requires : goal.step-last-requires
step-last-requires c = simp (c.step-upper.ensures, c.step-lower.ensures, c.start.ensures) (omega arith)

pub step-indicative-requires : goal.step-indicative-requires
step-indicative-requires c = simp (c.step-last.ensures, c.step-upper.ensures, c.step-lower.ensures, c.start.ensures) (omega arith)

pub step-count-requires : goal.step-count-requires
step-count-requires c = simp (c.step-indicative.ensures, c.step-last.ensures, c.step-upper.ensures, c.step-lower.ensures, c.start.ensures) (omega arith)

pub returns : goal.returns
returns c = simp (c.step-count.ensures, c.step-indicative.ensures, c.step-last.ensures, c.step-upper.ensures, c.step-lower.ensures, c.start.ensures)
