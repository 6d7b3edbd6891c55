-- `wrong_terms` meets its contract: its test is that of the definition, with what `on_grid` ensures.
use Rattle.rules.specs.Sheet.{terms_allowed}
use Rattle.sheet.proofs.orders.wrong_terms.Goals as goal

pub returns : goal.returns
unfolding terms_allowed
returns c = simp c.on_grid.ensures
