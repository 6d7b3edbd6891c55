-- `round_of` meets its contract: the lines in force are those of the orders as they stand, and each of the two steps on them is that of the rules.
use Rattle.round.proofs.OneRound.{round_is}
use Rattle.round.proofs.round_of.Goals as goal

pub returns : goal.returns
returns c = λ orders buy sell g.
    let b = c.line_in_force.ensures orders buy g in
    let s = c.line_in_force-2.ensures orders sell g in
    round_is _ _ _ (c.auction_price-auction.ensures _ b s) (c.settle.ensures.round _ g.bounded b s)
