-- `crossed_price` meets its contract: whether the band has a maximiser is one comparison of ends.
use mathlib.Core.Path.{◌∙◌}
use Rattle.pricing.proofs.Prices.{band_has_lem, band_has_none}
use Rattle.pricing.proofs.crossed_price.Goals as goal

pub returns-then-banded : goal.returns-then-banded
returns-then-banded c = c.balanced_price.ensures ∙ band_has_lem _ _ _ _ _ _ c.max.ensures c.min.ensures c.if-banded.true

pub returns-else-banded : goal.returns-else-banded
returns-else-banded c = c.balanced_price-else-banded.ensures ∙ band_has_none _ _ _ _ _ _ c.max.ensures c.min.ensures c.if-banded.false
