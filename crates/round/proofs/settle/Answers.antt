-- `settle` meets its contract: the fills of the rules, and the purchase price by their total.
use Rattle.round.proofs.OneRound.{settled_is}
use Rattle.round.proofs.settle.Goals as goal

pub returns-clause-round : goal.returns-clause-round
returns-clause-round c = λ os b buys sells. settled_is c.args.heading os c.args.auction (c.fills_of-filled.ensures.fills os b buys sells) c.purchase_price.ensures
