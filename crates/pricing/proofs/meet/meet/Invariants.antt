-- `meet` meets its contract. The invariant, `Walked`, is said of every round whose lines these are; the measure is the number of orders not
-- passed.
use Prim.Native.Nat.{◌+◌, ◌-◌}
use lib.ListN.{length}
use Rattle.pricing.proofs.Meeting.{Walked}
use Rattle.pricing.proofs.meet.meet.Given as goal

abbrev pub invariant-loop-bid : goal.invariant-loop-bid
invariant-loop-bid l = Walked l.bids l.met.buys.order l.met.buys.before.0 l.asks l.met.sells.order l.met.sells.before.0 l.met.volume.0

abbrev pub decreases-loop-bid : goal.decreases-loop-bid
decreases-loop-bid l = length l.bids + length l.asks - (l.met.buys.order + l.met.sells.order)
