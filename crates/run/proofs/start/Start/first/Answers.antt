-- `Start::first` meets its contract.
use Rattle.run.specs.Starts.{start_of}
use Rattle.run.proofs.start.Start.first.Goals as goal

pub returns : goal.returns
unfolding start_of
returns c = rw c.quantities.ensures
