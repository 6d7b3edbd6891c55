-- `meeting` meets its contract: both orders are there, and their places are compared.
use Rattle.pricing.proofs.Meeting.{no_bid, no_ask, meet_told}
use Rattle.pricing.proofs.meet.meeting.Goals as goal

pub returns-in_err-bid : goal.returns-in_err-bid
returns-in_err-bid c = rw c.from_residual.ensures (no_bid _ _ _ _ (rw c.deref.ensures.0 at c.in_err-bid.ensures.lookup.3))

pub returns-in_err-ask : goal.returns-in_err-ask
returns-in_err-ask c = rw c.from_residual-in_err-ask.ensures (no_ask _ _ _ _ (rw c.deref-2.ensures.0 at c.in_err-ask.ensures.lookup.3))

pub returns : goal.returns
returns c =
    let bid = rw c.deref.ensures.0 at c.in_ok-bid.ensures.lookup in
    let ask = rw c.deref-2.ensures.0 at c.in_ok-ask.ensures.lookup in
    meet_told _ _ _ _ bid.3.0 ask.3.0 (rw c.deref.ensures.0 at c.deref.ensures.1) (rw c.deref-2.ensures.0 at c.deref-2.ensures.1)
    (bid.3.1 0) (ask.3.1 0) c.place_in.ensures.0 c.place_in-2.ensures.0 c.then_some.ensures
