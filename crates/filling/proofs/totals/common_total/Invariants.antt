-- `common_total` meets its contract. One invariant for both loops, `Walks`: both totals are lawful, and no common lawful total is above
-- either. The inner loop lowers the sell total, the outer one the buy total; they are the measures.
use Rattle.filling.proofs.Walk.{Walks}
use Rattle.filling.proofs.totals.common_total.Given as goal

abbrev pub invariant-loop-sell : goal.invariant-loop-sell
invariant-loop-sell l = Walks l.bids l.asks l.buy l.sell

abbrev pub decreases-loop-sell : goal.decreases-loop-sell
decreases-loop-sell l = l.sell.total.0

abbrev pub invariant-walk : goal.invariant-walk
invariant-walk l = Walks l.bids l.asks l.buy l.sell

abbrev pub decreases-walk : goal.decreases-walk
decreases-walk l = l.buy.total.0
