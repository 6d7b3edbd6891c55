-- `auction_price` meets its contract: the orders that hold the last piece and the next one have the four limits that the law of the auction
-- asks for, and its first test is whether anything is carried.
use Rattle.pricing.proofs.Meeting.{limit_told, holds_last}
use Rattle.pricing.proofs.Prices.{nothing_carried, some_carried}
use Rattle.pricing.proofs.auction_price.Goals as goal

pub returns-then-met-eq0 : goal.returns-then-met-eq0
returns-then-met-eq0 c os b s = let m = c.meet-met.ensures c.args.heading os b s in
    let bid = c.limit_at.ensures in let ask = c.limit_at-2.ensures in
    nothing_carried _ _ os m.volume (limit_told b m.buy bid) (limit_told s m.sell ask) c.if-met-eq0.true c.uncrossed_price.ensures

pub returns : goal.returns
returns c os b s = let m = c.meet-met.ensures c.args.heading os b s in
    let some = c.if-met-eq0.false in
    let bid = c.limit_at.ensures in let ask = c.limit_at-2.ensures in
    some_carried _ _ os m.volume (limit_told b m.buy bid) (limit_told s m.sell ask) some
    (limit_told s (holds_last s m.sell some m.sold c.last_holder.ensures) c.limit_at-3.ensures)
    (limit_told b (holds_last b m.buy some m.bought c.last_holder-2.ensures) c.limit_at-4.ensures)
    c.crossed_price.ensures
