-- `heading_from` meets its contract: field by field, as the definition.
use mathlib.Core.Path.{refl}
use Rattle.rules.specs.Sheet.{heading_from}
use Rattle.sheet.proofs.heading.heading_from.Goals as goal

pub returns : goal.returns
unfolding heading_from
returns c = refl
