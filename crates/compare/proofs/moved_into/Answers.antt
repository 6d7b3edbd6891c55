-- `moved_into` meets its contract, by its tests.
use Rattle.rules.specs.Grid.{moved_into}
use Rattle.rules.proofs.Tests.{tests}
use Rattle.compare.proofs.moved_into.Goals as goal

pub returns-then-price-lower : goal.returns-then-price-lower
unfolding moved_into
returns-then-price-lower c = search tests

pub returns-then-upper-price : goal.returns-then-upper-price
unfolding moved_into
returns-then-upper-price c = search tests

pub returns-else-upper-price : goal.returns-else-upper-price
unfolding moved_into
returns-else-upper-price c = search tests
