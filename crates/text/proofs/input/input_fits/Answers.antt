-- `input_fits` meets its contract: it is the rules' test.
use Rattle.rules.specs.Listing.{input_fits}
use Rattle.rules.proofs.Tests.{tests}
use Rattle.text.proofs.input.input_fits.Goals as goal

pub returns : goal.returns
unfolding input_fits
returns c = search tests
