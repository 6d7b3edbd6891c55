-- A round that goes on uses up an order, so it leaves fewer orders with pieces than it found: there are no more such rounds than
-- orders.
use mathlib.Core.Bool.{Bool, true, false, ◌&&◌, cond}
use mathlib.Core.List.{List}
use mathlib.Core.Path.{◌≡◌, refl, ap, ◌∙◌}
use Prim.Native.Nat.{ℕ, ◌+◌, ◌-◌, ◌≤◌, ◌<◌, zero-le}
use native.Mathlib.Nat.{le_refl}
use native.Mathlib.Omega.{arith}
use lib.Dec.{ltb, eqb}
use lib.ListN.{length, get_or}
use borrow.Author.Tests.{leb-true, ltb-true, ltb-false, eqb-true, lt-ltb}
use Rattle.claims.proofs.Sums.{one_le, ones, sum_more, Passing}
use Rattle.claims.proofs.Totals.{total-is}
use Rattle.claims.proofs.UsesUp.{used_up, uses_up}
use Rattle.rules.proofs.Grid.{both}
use Rattle.rules.proofs.Lists.{length-listed, get_d_listed}
use Rattle.rules.proofs.Sums.{sum_le}
use Rattle.rules.specs.AuctionPrice.{Auction, in_band, auction}
use Rattle.rules.specs.Fills.{fill_of, total, fills_of}
use Rattle.rules.specs.Grid.{over_grid}
use Rattle.rules.specs.Limits.{stands, filed, numbered, rival_pieces, limit_in_force, standing_by, standing}
use Rattle.rules.specs.Lists.{sum_to}
use Rattle.rules.specs.Opening.{Start, Round, settled, round_from, after, goes_on}
use Rattle.rules.specs.Sheet.{D, H, order_at, heading_of, orders_of}
use Rattle.rules.specs.declared.Heading.{Heading}
use Rattle.rules.specs.declared.Order.{Order}
use Rattle.rules.specs.declared.Side.TheVariants.{Buy}
use Rattle.rules.specs.declared.Standing.{Standing}

-- ---- The orders of a round

pub count-orders : (ws : List ℕ) → length (orders_of ws) ≡ (heading_of ws).count
unfolding orders_of
count-orders ws = length-listed (order_at ws) (heading_of ws).count

pub length-standing : (h : Heading) (orders : List Order) (remaining : List ℕ)
    → length (standing h orders remaining) ≡ length orders
unfolding standing standing_by
length-standing h orders remaining = length-listed _ (length orders)

-- order k as it stands
pub standing-at : (h : Heading) (orders : List Order) (remaining : List ℕ) (k : ℕ) → k < length orders
    → numbered (standing h orders remaining) k
    ≡ stands (filed orders k)
    (limit_in_force h (filed orders k).side (filed orders k).terms (over_grid (rival_pieces h orders remaining k)))
    (get_or remaining k 0)
unfolding standing standing_by
standing-at h orders remaining k l = get_d_listed _ (length orders) k _ l

pub remaining_standing : (h : Heading) (orders : List Order) (remaining : List ℕ) (k : ℕ) → k < length orders
    → (numbered (standing h orders remaining) k).remaining.0 ≡ get_or remaining k 0
remaining_standing h orders remaining k l = ap (λ (o : Standing). o.remaining.0) (standing-at h orders remaining k l)

-- ---- The orders with pieces left

abbrev one : ℕ → ℕ
one pieces = cond (ltb 0 pieces) 1 0

pub live : Start → ℕ
live s = sum_to (λ k. one (get_or s.remaining k 0)) (length s.remaining)

fewer : (x y : ℕ) → one (x - y) ≤ one x
fewer x y = go (ltb 0 x) refl (ltb 0 (x - y)) refl
  where
    go : (t : Bool) → ltb 0 x ≡ t → (u : Bool) → ltb 0 (x - y) ≡ u → cond u 1 0 ≤ cond t 1 0
    go true e true f = le_refl 1
    go true e false f = zero-le
    go false e true f = absurd (omega (arith, ltb-false 0 x e, ltb-true 0 (x - y) f))
    go false e false f = le_refl 0

pub length-after : (s : Start) (r : Round) → length (after s r).remaining ≡ length s.remaining
unfolding after
length-after s r = length-listed _ (length s.remaining)

pub remaining_after : (s : Start) (r : Round) (k : ℕ) → k < length s.remaining
    → get_or (after s r).remaining k 0 ≡ get_or s.remaining k 0 - fill_of r.fills k
unfolding after
remaining_after s r k l = get_d_listed _ (length s.remaining) k 0 l

-- a round in which some order is used up leaves fewer
live_after : (s : Start) (r : Round) (k : ℕ) → k < length s.remaining → 0 < get_or s.remaining k 0
    → fill_of r.fills k ≡ get_or s.remaining k 0 → live (after s r) < live s
unfolding live
live_after s r k l some full =
    let less =
    sum_more (λ j. one (get_or (after s r).remaining j 0)) (λ j. one (get_or s.remaining j 0)) (length s.remaining) k 1
    each l own in
    rw (length-after s r) (omega arith)
  where
    each : (j : ℕ) → j < length s.remaining → one (get_or (after s r).remaining j 0) ≤ one (get_or s.remaining j 0)
    each j m = rw (remaining_after s r j m) (fewer (get_or s.remaining j 0) (fill_of r.fills j))

    own : one (get_or (after s r).remaining k 0) + 1 ≤ one (get_or s.remaining k 0)
    own =
        let none : get_or (after s r).remaining k 0 ≡ 0 = remaining_after s r k l ∙ omega arith in
        rw (none, lt-ltb 0 (get_or s.remaining k 0) some) (le_refl 1)

pub few_live : (s : Start) → live s ≤ length s.remaining
unfolding live
few_live s =
    let most =
    sum_le (λ k. one (get_or s.remaining k 0)) (λ k. 1) (length s.remaining) (λ j l. one_le (ltb 0 (get_or s.remaining j 0))) in
    omega (arith, ones (length s.remaining))

-- ---- A round that goes on

module _ (ws : List ℕ) (band : D (heading_of ws) ≤ H (heading_of ws)) where
  abbrev h : Heading
  h = heading_of ws

  abbrev n : ℕ
  n = length (orders_of ws)

  abbrev os : Start → List Standing
  os s = standing h (orders_of ws) s.remaining

  abbrev auction_from : Start → Auction
  auction_from s = auction h s.last (os s)

  -- a round that goes on uses up an order,
  round_uses_up : (s : Start) → goes_on h (round_from ws s) ≡ true
      → Passing (used_up h (auction_from s) (os s) band) (length (os s))
  unfolding round_from settled goes_on
  round_uses_up s goes =
      let traded = (both {a = eqb (auction_from s).situation 0 && in_band h (auction_from s).price} goes).1 in
      uses_up h (auction_from s) (os s) band
      (rw (total-is h (auction_from s) (os s) Buy) at
      (leb-true 1 (total Buy (os s) (fills_of h (auction_from s) (os s))) traded))

  -- and so leaves fewer with pieces
  pub leaves_fewer : (s : Start) → length s.remaining ≡ n → goes_on h (round_from ws s) ≡ true
      → live (after s (round_from ws s)) < live s
  unfolding round_from settled
  leaves_fewer s long goes =
      let p = round_uses_up s goes in
      let k = p.number in
      let size : length (os s) ≡ n = length-standing h (orders_of ws) s.remaining in
      let below : k < length (os s) = p.below in
      let left : (numbered (os s) k).remaining.0 ≡ get_or s.remaining k 0 =
      remaining_standing h (orders_of ws) s.remaining k (omega arith) in
      let t = both {a = ltb 0 (numbered (os s) k).remaining.0} p.passes in
      live_after s (round_from ws s) k (omega arith)
      (rw left at (ltb-true 0 (numbered (os s) k).remaining.0 t.0))
      (eqb-true (fill_of (fills_of h (auction_from s) (os s)) k) (numbered (os s) k).remaining.0 t.1 ∙ left)
