-- `number` meets its contract: the library's digits of a number are its figures, at most 20.
use native.Mathlib.Omega.{arith}
use Rattle.text.proofs.Figures.{decimal_figures}
use Rattle.text.proofs.Writing.{◌within◌}
use Rattle.text.proofs.writer.Writer.number.Goals as goal

pub returns : goal.returns
returns c = let digits = c.decimal-count.ensures in
    rw (← decimal_figures digits.len, ← digits.digits) (c.put.ensures within omega (arith, digits.in_bounds))
