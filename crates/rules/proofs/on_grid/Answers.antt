-- `rules::on_grid` meets its contract: its test is that of the definition.
use Rattle.std.proofs.Common.{rules}
use Rattle.rules.specs.Grid.{on_grid}
use Rattle.rules.proofs.on_grid.Goals as goal

pub returns : goal.returns
unfolding on_grid
returns c = search rules
