-- `wrong_prices` meets its contract: its test is that of the definition, with what `on_grid` ensures of each price.
use Rattle.rules.specs.Sheet.{prices_on_grid}
use Rattle.sheet.proofs.heading.wrong_prices.Goals as goal

pub returns : goal.returns
unfolding prices_on_grid
returns c = simp (c.on_grid.ensures, c.on_grid-2.ensures, c.on_grid-3.ensures, c.on_grid-4.ensures)
