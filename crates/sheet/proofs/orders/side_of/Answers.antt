-- `side_of` meets its contract, by its test.
use Rattle.rules.specs.Sheet.{side_of}
use Rattle.rules.proofs.Tests.{tests}
use Rattle.sheet.proofs.orders.side_of.Goals as goal

pub returns-then-kind : goal.returns-then-kind
unfolding side_of
returns-then-kind c = search tests

pub returns-else-kind : goal.returns-else-kind
unfolding side_of
returns-else-kind c = search tests
