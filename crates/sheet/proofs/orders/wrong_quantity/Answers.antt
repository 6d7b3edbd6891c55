-- `wrong_quantity` meets its contract: its test is that of the definition.
use mathlib.Core.Path.{refl}
use Rattle.rules.specs.Sheet.{quantity_allowed}
use Rattle.sheet.proofs.orders.wrong_quantity.Goals as goal

pub returns : goal.returns
unfolding quantity_allowed
returns c = refl
