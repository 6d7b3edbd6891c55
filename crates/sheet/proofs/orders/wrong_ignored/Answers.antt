-- `wrong_ignored` meets its contract: its test is that of the definition.
use mathlib.Core.Path.{refl}
use Rattle.rules.specs.Sheet.{ignored_allowed}
use Rattle.sheet.proofs.orders.wrong_ignored.Goals as goal

pub returns : goal.returns
unfolding ignored_allowed
returns c = refl
