-- `wrong_band` meets its contract: its test is that of the definition.
use mathlib.Core.Path.{refl}
use Rattle.rules.specs.Sheet.{band_encloses}
use Rattle.sheet.proofs.heading.wrong_band.Goals as goal

pub returns : goal.returns
unfolding band_encloses
returns c = refl
