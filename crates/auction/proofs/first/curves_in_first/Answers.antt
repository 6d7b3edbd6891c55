-- `curves_in_first` meets its contract: a price off the grid is refused, and on the grid both curves are read from the lines of their sides.
use Rattle.auction.proofs.FirstRound.{off_grid, curves_stand}
use mathlib.Core.Path.{sym, ◌∙◌}
use Rattle.auction.proofs.first.curves_in_first.Goals as goal

pub returns-then-not-on_grid : goal.returns-then-not-on_grid
returns-then-not-on_grid c = λ ws a. off_grid a _ (sym c.on_grid.ensures ∙ c.if-not-on_grid.true)

pub returns : goal.returns
returns c = λ ws a.
    curves_stand a _ (sym c.on_grid.ensures ∙ c.if-not-on_grid.false)
    (c.first_line-bids.ensures ws a) (rw c.place_of.ensures at c.pieces_at-demand.ensures)
    (c.first_line-asks.ensures ws a) (rw c.place_of-2.ensures at c.pieces_at-supply.ensures)
    c.min.ensures
