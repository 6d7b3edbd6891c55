-- `wrong_kinds` meets its contract: its test is that of the definition.
use mathlib.Core.Path.{refl}
use Rattle.rules.specs.Sheet.{order_kinds}
use Rattle.sheet.proofs.orders.wrong_kinds.Goals as goal

pub returns : goal.returns
unfolding order_kinds
returns c = refl
