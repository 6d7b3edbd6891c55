-- `fill_fee` meets its contract: no pieces cost nothing, and the steps of all other fills are those of the rule.
use native.Mathlib.Omega.{arith}
use Rattle.rules.proofs.Tests.{tests}
use Rattle.rules.specs.Fees.{fill_fee}
use Rattle.fees.proofs.Charging.{figures, fee_of_fill}
use Rattle.fees.proofs.fill_fee.Goals as goal

pub returns-then-trade-eq0 : goal.returns-then-trade-eq0
unfolding fill_fee
returns-then-trade-eq0 c = search tests

pub rated-fee-requires : goal.rated-fee-requires
rated-fee-requires c = ((figures _ c.requires.0).rate, c.worth.ensures.1)

pub clamp-requires : goal.clamp-requires
clamp-requires c = omega (arith, (figures _ c.requires.0).ordered, c.from.ensures, c.from-2.ensures)

pub returns : goal.returns
returns c = fee_of_fill _ c.requires.0 _ c.if-trade-eq0.false c.worth.ensures.0 c.rated-fee.ensures
    c.from.ensures c.from-2.ensures c.clamp.ensures
