-- `wrong_kinds` meets its contract: its test is that of the definition.
use mathlib.Core.Path.{refl}
use Rattle.rules.specs.Sheet.{heading_kinds}
use Rattle.sheet.proofs.heading.wrong_kinds.Goals as goal

pub returns : goal.returns
unfolding heading_kinds
returns c = refl
