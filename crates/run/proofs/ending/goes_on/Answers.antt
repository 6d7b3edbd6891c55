-- `goes_on` meets its contract.
use Rattle.rules.specs.Opening.{goes_on}
use Rattle.run.proofs.ending.goes_on.Goals as goal

pub returns : goal.returns
unfolding goes_on
returns c = rw c.in_band.ensures
