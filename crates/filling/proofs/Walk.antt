-- The walk down to the largest total within lawful reach of both sides. It stands at a lawful total of each side, and no common one lies
-- above either; so each side may step down to its largest lawful total at or below the other's.
use mathlib.Core.Bool.{true, ◌&&◌}
use mathlib.Core.List.{List}
use mathlib.Core.Path.{◌≡◌, sym, ◌∙◌}
use Prim.Native.Nat.{ℕ, ◌≤◌, min}
use native.Mathlib.Omega.{arith}
use lib.ListN.{length}
use Rattle.claims.proofs.Totals.{reaches_none, largest_ok, largest_is}
use Rattle.lines.proofs.Summing.{GoneBy, gone_by}
use Rattle.lines.specs.Lines.{up_to}
use Rattle.rules.proofs.Grid.{both}
use Rattle.rules.proofs.Scan.{largest_ge}
use Rattle.rules.specs.AuctionPrice.{Auction}
use Rattle.rules.specs.Fills.{offered, reaches, largest_total}
use Rattle.rules.specs.declared.Heading.{Heading}
use Rattle.rules.specs.declared.Side.{Side}
use Rattle.rules.specs.declared.Side.TheVariants.{Buy, Sell}
use Rattle.rules.specs.declared.Standing.{Standing}
use Rattle.filling.specs.Queues.{QueueOf}
use Rattle.filling.specs.Reaching.{WholeOf, ReachedFrom}
use Rattle.filling.specs.declared.totals.Reached.{Reached}

-- the smaller of what the sides offer
abbrev pub most : Heading → Auction → List Standing → ℕ
most h a os = min (offered h a os Buy) (offered h a os Sell)

-- where the walk stands on a side
pub record StandsAt (h : Heading) (a : Auction) (os : List Standing) (s : Side) (queue : List ℕ) (r : Reached) : Type 0 where
  pub lawful : reaches h a os s r.total.0 ≡ true
  pub low : r.total.0 ≤ most h a os
  pub reached : r.total.0 ≤ up_to queue r.orders

pub record Walking (h : Heading) (a : Auction) (os : List Standing) (bids asks : List ℕ) (buy sell : Reached) : Type 0 where
  pub buys : StandsAt h a os Buy bids buy
  pub sells : StandsAt h a os Sell asks sell
  pub common : (u : ℕ) → u ≤ most h a os → reaches h a os Buy u ≡ true → reaches h a os Sell u ≡ true → (u ≤ buy.total.0) × (u ≤ sell.total.0)

-- a total that a side steps down to is lawful, and no lawful one at or below where it stepped from is larger
module _ {h : Heading} {a : Auction} {os : List Standing} {s : Side} {queue : List ℕ} {orders total : ℕ} {r : Reached}
    (f : ReachedFrom queue orders total r) (q : QueueOf h a os s queue) (enough : total ≤ up_to queue orders) where
  step_stands : total ≤ most h a os → StandsAt h a os s queue r
  step_stands below =
      let top = f.largest h a os s q enough in
      record {
        lawful = rw top.0 (largest_ok (reaches h a os s) total (reaches_none h a os s));
        low = omega (arith, f.low);
        reached = top.1;
      }

  step_most : (u : ℕ) → u ≤ total → reaches h a os s u ≡ true → u ≤ r.total.0
  step_most u low e = rw (f.largest h a os s q enough).0 (largest_ge (reaches h a os s) total u low e)

-- the same of any round whose queues they are
pub record Walks (bids asks : List ℕ) (buy sell : Reached) : Type 0 where
  pub bought : GoneBy bids buy.orders buy.sum.0
  pub sold : GoneBy asks sell.orders sell.sum.0
  pub walking : (h : Heading) (a : Auction) (os : List Standing) → QueueOf h a os Buy bids → QueueOf h a os Sell asks
      → Walking h a os bids asks buy sell

step_gone : {queue : List ℕ} {orders total : ℕ} {r : Reached} → ReachedFrom queue orders total r → orders ≤ length queue
    → GoneBy queue r.orders r.sum.0
step_gone {queue} f few = gone_by queue (omega (arith, f.fewer)) f.summed

module _ {bids asks : List ℕ} {buy sell : Reached} where
  pub walk_starts : {wanted asked : Reached} {top : ℕ} → WholeOf bids wanted → WholeOf asks asked → top ≡ min wanted.sum.0 asked.sum.0
      → ReachedFrom bids wanted.orders top buy → ReachedFrom asks asked.orders top sell → Walks bids asks buy sell
  walk_starts {wanted} {asked} {top} b s e f g = record {
    bought = step_gone f (omega (arith, b.long));
    sold = step_gone g (omega (arith, s.long));
    walking = λ h a os p q.
        let bid : wanted.sum.0 ≡ offered h a os Buy = b.summed ∙ rw b.long (sym p.all) in
        let ask : asked.sum.0 ≡ offered h a os Sell = s.summed ∙ rw s.long (sym q.all) in
        let all : top ≡ most h a os = rw (← bid, ← ask) e in
        let enough-bid : top ≤ up_to bids wanted.orders = omega (arith, b.summed) in
        let enough-asked : top ≤ up_to asks asked.orders = omega (arith, s.summed) in
        record {
          buys = step_stands f p enough-bid (omega arith);
          sells = step_stands g q enough-asked (omega arith);
          common = λ u l e k. (step_most f p enough-bid u (omega arith) e, step_most g q enough-asked u (omega arith) k);
        };
  }

  module _ {r : Reached} (w : Walks bids asks buy sell) where
    -- a sell total above the buy total goes down to the next at or below it
    pub sell_steps : buy.total.0 ≤ sell.total.0 → ReachedFrom asks sell.orders buy.total.0 r → Walks bids asks buy r
    sell_steps above f = record {
      bought = w.bought;
      sold = step_gone f w.sold.within;
      walking = λ h a os p q.
          let x = w.walking h a os p q in
          let enough : buy.total.0 ≤ up_to asks sell.orders = omega (arith, x.sells.reached) in
          record {
            buys = x.buys;
            sells = step_stands f q enough x.buys.low;
            common = λ u l e k. let c = x.common u l e k in (c.0, step_most f q enough u c.0 k);
          };
    }

    -- and a buy total above the sell total likewise
    pub buy_steps : sell.total.0 ≤ buy.total.0 → ReachedFrom bids buy.orders sell.total.0 r → Walks bids asks r sell
    buy_steps above f = record {
      bought = step_gone f w.bought.within;
      sold = w.sold;
      walking = λ h a os p q.
          let x = w.walking h a os p q in
          let enough : sell.total.0 ≤ up_to bids buy.orders = omega (arith, x.buys.reached) in
          record {
            buys = step_stands f p enough x.sells.low;
            sells = x.sells;
            common = λ u l e k. let c = x.common u l e k in (step_most f p enough u c.1 e, c.1);
          };
    }

  -- where the two meet is the largest common one
  pub walk_ends : Walks bids asks buy sell → sell.total.0 ≡ buy.total.0 → (h : Heading) (a : Auction) (os : List Standing)
      → QueueOf h a os Buy bids → QueueOf h a os Sell asks → buy.total.0 ≡ largest_total h a os
  unfolding largest_total
  walk_ends w q h a os p r =
      let x = w.walking h a os p r in
      largest_is (λ t. reaches h a os Buy t && reaches h a os Sell t) (most h a os) buy.total.0 x.buys.low
      (rw x.buys.lawful (rw q at x.sells.lawful))
      (λ u above l e.
      let t = both {a = reaches h a os Buy u} e in
      let c = (x.common u l t.0 t.1).0 in
      omega arith)
