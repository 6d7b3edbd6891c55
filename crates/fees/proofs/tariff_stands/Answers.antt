-- `tariff_stands` meets its contract: its tests are those of the definition.
use Rattle.rules.proofs.Tests.{tests}
use Rattle.rules.specs.Fees.{tariff_stands}
use Rattle.fees.proofs.tariff_stands.Goals as goal

pub returns-then-tariff-le-MOST_FEE-2 : goal.returns-then-tariff-le-MOST_FEE-2
unfolding tariff_stands
returns-then-tariff-le-MOST_FEE-2 c = search tests

pub returns-else-tariff-le-MOST_FEE-2 : goal.returns-else-tariff-le-MOST_FEE-2
unfolding tariff_stands
returns-else-tariff-le-MOST_FEE-2 c = search tests
