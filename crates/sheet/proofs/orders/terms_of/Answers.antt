-- `terms_of` meets its contract, by its tests.
use Rattle.rules.specs.Sheet.{terms_of}
use Rattle.rules.proofs.Tests.{tests}
use Rattle.sheet.proofs.orders.terms_of.Goals as goal

pub returns-then-disposition-eq2 : goal.returns-then-disposition-eq2
unfolding terms_of
returns-then-disposition-eq2 c = search tests

pub returns-then-limit-eq0 : goal.returns-then-limit-eq0
unfolding terms_of
returns-then-limit-eq0 c = search tests

pub returns-else-limit-eq0 : goal.returns-else-limit-eq0
unfolding terms_of
returns-else-limit-eq0 c = search tests
