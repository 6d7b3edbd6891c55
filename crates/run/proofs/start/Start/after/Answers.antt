-- `Start::after` meets its contract.
use Rattle.run.specs.Starts.{start_after}
use Rattle.run.proofs.start.Start.after.Goals as goal

pub returns : goal.returns
unfolding start_after
returns c = rw (c.last_after.ensures, c.less_fills.ensures)
