-- The endings by their numbers. Serves [7.6].
use Rattle.std.specs.Prelude.{ℕ}
use Rattle.run.specs.declared.ending.Ending.{Ending}
use Rattle.run.specs.declared.ending.Ending.TheVariants.{NoPrice, Blocked, Waiting}

abbrev pub ending_number : Ending → ℕ
ending_number NoPrice = 0
ending_number Blocked = 1
ending_number Waiting = 2
