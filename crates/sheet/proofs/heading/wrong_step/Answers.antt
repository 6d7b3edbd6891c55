-- `wrong_step` meets its contract: its test is that of the definition.
use mathlib.Core.Path.{refl}
use Rattle.rules.specs.Sheet.{step_allowed}
use Rattle.sheet.proofs.heading.wrong_step.Goals as goal

pub returns : goal.returns
unfolding step_allowed
returns c = refl
