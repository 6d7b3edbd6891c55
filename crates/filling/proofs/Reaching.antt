-- The largest lawful total at or below one, by a queue. Going down from an order at which the total is reached, the first that begins below
-- the total is the only one that it can split.
use mathlib.Core.Bool.{Bool, true, false, ◌&&◌, false≢true}
use mathlib.Core.List.{List}
use mathlib.Core.Logic.{◌⊎◌, inl, inr}
use mathlib.Core.Path.{◌≡◌, refl, sym, ap, ◌∙◌}
use Prim.Native.Nat.{ℕ, suc, ◌+◌, ◌-◌, ◌≤◌, ◌<◌, zero-le}
use native.Mathlib.Nat.{le_refl}
use native.Mathlib.Omega.{arith}
use lib.Dec.{ltb}
use lib.ListN.{length}
use borrow.Author.Tests.{ltb-true, lt-ltb}
use Rattle.claims.specs.Orders.{left}
use Rattle.claims.proofs.Priority.{three}
use Rattle.claims.proofs.Sums.{sum_longer}
use Rattle.lines.specs.Keys.{number_in, whole_in, amount_in}
use Rattle.lines.specs.Lines.{up_to}
use Rattle.rules.proofs.Grid.{both}
use Rattle.rules.specs.AuctionPrice.{Auction}
use Rattle.rules.specs.Fills.{ahead, offered, reaches}
use Rattle.rules.specs.Lists.{sum_to, largest_to}
use Rattle.rules.specs.declared.Heading.{Heading}
use Rattle.rules.specs.declared.Side.{Side}
use Rattle.rules.specs.declared.Standing.{Standing}
use Rattle.sorting.specs.Sorted.{item}
use Rattle.filling.proofs.Stretch.{falls_inside, splits, Inside, inside, lowered, stays}
use Rattle.filling.specs.Queues.{QueueOf}
use Rattle.filling.specs.Reaching.{ReachedFrom}

-- ---- What a total splits

module _ {h : Heading} {a : Auction} {os : List Standing} {s : Side} {queue : List ℕ} (q : QueueOf h a os s queue) where
  -- an order whose stretch has the total inside stands in the queue
  not_split : (t k : ℕ) → k < length os
      → ((j : ℕ) → j < length queue → number_in (item queue j) ≡ k → Inside h a os s t k → ⊥) → splits h a os s t k ≡ false
  not_split t k l never = go (splits h a os s t k) refl
    where
      go : (u : Bool) → splits h a os s t k ≡ u → splits h a os s t k ≡ false
      go false e = e
      go true e =
          let x = inside h a os s t k e in
          let p = q.place k l x.own x.counts (omega (arith, x.above, x.below)) in
          absurd (never p.number p.below p.is x)

  -- the stretch of the order at place j
  stretch_at : (t k j : ℕ) → j < length queue → number_in (item queue j) ≡ k → Inside h a os s t k
      → (up_to queue j < t) × (t < up_to queue (suc j))
  stretch_at t k j l e x =
      let o = q.order j l in
      let begin : ahead h a os k ≡ up_to queue j = rw (← e) o.begin in
      let extend : up_to queue (suc j) ≡ up_to queue j + left os k = rw (← e) o.extend in
      (omega (arith, x.above), omega (arith, x.below))

  -- a total that order m ends, and does not split it, splits none
  clear_at : (t m : ℕ) → m < length queue → up_to queue m < t → t ≤ up_to queue (suc m)
      → (whole_in (item queue m) && ltb t (up_to queue (suc m))) ≡ false → t ≤ offered h a os s → t ≡ largest_to (reaches h a os s) t
  clear_at t m few past most whole enough = stays h a os s t (λ k l. not_split t k l (λ j b e x. never k j b e x (three j m))) enough
    where
      never : (k j : ℕ) → j < length queue → number_in (item queue j) ≡ k → Inside h a os s t k → (j < m) ⊎ ((j ≡ m) ⊎ (m < j)) → ⊥
      never k j b e x (inr (inl g)) =
          let u : ltb t (up_to queue (suc m)) ≡ true = lt-ltb t (up_to queue (suc m)) (rw g at (stretch_at t k j b e x).1) in
          let w : whole_in (item queue j) ≡ true = sym (q.order j b).kind ∙ rw e x.kind in
          let v : whole_in (item queue m) ≡ true = rw g at w in
          false≢true (sym whole ∙ rw (u, v))
      never k j b e x (inl g) =
          omega (arith, stretch_at t k j b e x, sum_longer (λ i. amount_in (item queue i)) (suc j) m g)
      never k j b e x (inr (inr g)) =
          omega (arith, stretch_at t k j b e x, sum_longer (λ i. amount_in (item queue i)) (suc m) j g)

  -- no pieces at all split nobody
  clear_none : (t : ℕ) → t ≤ 0 → t ≡ largest_to (reaches h a os s) t
  clear_none t none = stays h a os s t (λ k l. not_split t k l (λ j b e x. omega (arith, x.above))) (omega arith)

  -- a total inside the stretch of the order at place m goes down to where it begins
  split_at : (t m : ℕ) → m < length queue → up_to queue m < t → (whole_in (item queue m) && ltb t (up_to queue (suc m))) ≡ true
      → t ≤ offered h a os s → up_to queue m ≡ largest_to (reaches h a os s) t
  unfolding falls_inside
  split_at t m few past whole enough =
      let o = q.order m few in
      let k : ℕ = number_in (item queue m) in
      let two = both {a = whole_in (item queue m)} whole in
      let below : t < ahead h a os k + left os k = rw (o.begin, ← o.extend) (ltb-true t (up_to queue (suc m)) two.1) in
      let above : ahead h a os k < t = rw o.begin past in
      let split : splits h a os s t k ≡ true =
      rw (o.kind, two.0, o.own, o.counts, lt-ltb (ahead h a os k) t above, lt-ltb t (ahead h a os k + left os k) below) in
      sym o.begin ∙ lowered h a os s t k o.below split enough

-- ---- Going down

-- from an order at which the total is reached down to order i it is still reached
pub record Down (queue : List ℕ) (orders total i upto : ℕ) : Type 0 where
  pub within : orders ≤ length queue
  pub fewer : i ≤ orders
  pub summed : upto ≡ up_to queue i
  pub reached : total ≤ up_to queue orders → total ≤ up_to queue i

module _ {queue : List ℕ} {orders total i upto : ℕ} (d : Down queue orders total i upto) where
  -- the side offers it
  enough : {h : Heading} {a : Auction} {os : List Standing} {s : Side} → QueueOf h a os s queue → total ≤ up_to queue orders
      → total ≤ offered h a os s
  enough q most = omega (arith, q.all, sum_longer (λ i. amount_in (item queue i)) orders (length queue) d.within)

  module _ (some : 0 < i) {x : ℕ} (e : x ≡ amount_in (item queue (i - 1))) where
    last : up_to queue i ≡ up_to queue (i - 1) + x
    unfolding sum_to
    last = let here : i ≡ suc (i - 1) = omega arith in ap (up_to queue) here ∙ omega (arith, e)

    pub down_room : x ≤ upto
    down_room = omega (arith, last, d.summed)

    before : upto - x ≡ up_to queue (i - 1)
    before = omega (arith, last, d.summed)

    pub down_more : total ≤ upto - x → Down queue orders total (i - 1) (upto - x)
    down_more most = record {
      within = d.within;
      fewer = omega (arith, d.fewer);
      summed = before;
      reached = λ top. omega (arith, before);
    }

    module _ (past : upto - x < total) where
      -- the same test, of the order's place in the queue
      at_last : {t : Bool} → (whole_in (item queue (i - 1)) && ltb total upto) ≡ t
          → (whole_in (item queue (i - 1)) && ltb total (up_to queue (suc (i - 1)))) ≡ t
      at_last f = let here : suc (i - 1) ≡ i = omega arith in rw (here, ← d.summed) f

      pub down_splits : (whole_in (item queue (i - 1)) && ltb total upto) ≡ true
          → ReachedFrom queue orders total (record { total = record { 0 = upto - x }; orders = i - 1; sum = record { 0 = upto - x } })
      down_splits whole = record {
        low = omega arith;
        fewer = omega (arith, d.fewer);
        summed = before;
        largest = λ h a os s q most. (
          before
              ∙ split_at q total (i - 1) (omega (arith, d.fewer, d.within)) (omega (arith, before)) (at_last whole) (enough q most),
          omega (arith, before),
        );
      }

      pub down_stays : (whole_in (item queue (i - 1)) && ltb total upto) ≡ false
          → ReachedFrom queue orders total (record { total = record { 0 = total }; orders = i; sum = record { 0 = upto } })
      down_stays whole = record {
        low = le_refl total;
        fewer = d.fewer;
        summed = d.summed;
        largest = λ h a os s q most.
            let here = d.reached most in
            let next : suc (i - 1) ≡ i = omega arith in (
              clear_at q total (i - 1) (omega (arith, d.fewer, d.within)) (omega (arith, before)) (rw next here) (at_last whole)
                  (enough q most),
              here,
            );
      }

  pub down_all : i ≡ 0 → ReachedFrom queue orders total (record { total = record { 0 = total }; orders = 0; sum = record { 0 = upto } })
  unfolding sum_to
  down_all first = record {
    low = le_refl total;
    fewer = zero-le;
    summed = d.summed ∙ ap (up_to queue) first;
    largest = λ h a os s q most.
        let here : total ≤ 0 = omega (arith, ap (up_to queue) first, d.reached most) in
        (clear_none q total here, here);
  }
