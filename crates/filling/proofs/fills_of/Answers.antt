-- `fills_of` meets its contract: without a crossing nobody is eligible; else both lines become the queues of their sides, and the fills
-- are by them.
use Rattle.rules.specs.AuctionPrice.{auctioned}
use Rattle.filling.proofs.Fills.{none_filled}
use Rattle.filling.proofs.fills_of.Goals as goal

pub returns-then-auction-clause-fills : goal.returns-then-auction-clause-fills
returns-then-auction-clause-fills c = let a = c.args in
    λ os b buys sells. none_filled a.heading (auctioned a.auction) os c.if-auction.true buys.few

pub returns-clause-fills : goal.returns-clause-fills
returns-clause-fills c = let crossed = c.if-auction.false in
    let a = auctioned c.args.auction in
    λ os b buys sells.
    c.fills_from-filled.ensures c.args.heading a os
    (c.queue_up.ensures.given a os crossed c.potential_purchase-purchase.ensures b buys)
    (c.queue_up-2.ensures.given a os crossed c.potential_purchase-purchase.ensures b sells)
