-- `fills_from` meets its contract: both sides have got their shares of the largest total.
use mathlib.Core.Path.{ap}
use Rattle.rules.specs.declared.Pieces.{Pieces}
use Rattle.rules.specs.declared.Side.TheVariants.{Buy, Sell}
use Rattle.filling.proofs.Fills.{nothing_at, both_handed}
use Rattle.filling.proofs.fills_from.Goals as goal

pub returns : goal.returns
returns c = λ h a os buys sells.
    both_handed h a os buys.few (c.common_total-total.ensures h a os buys.standing sells.standing)
    (λ k. ap (λ (m : Pieces). m.0) (nothing_at 120 k)) (c.hand_out-bought.ensures h a os Buy buys)
    (c.hand_out.ensures h a os Sell sells)
