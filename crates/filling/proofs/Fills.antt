-- The fills in their places. Both sides have got their shares, and no order is of both, so all 120 places hold the fills of the rules; without
-- a crossing nobody is eligible, and they hold nothing. For a caller: the total is the largest one, and the pieces are the fills of the
-- rules, followed by 0 where no order stands.
use mathlib.Core.Bool.{Bool, false, ◌&&◌, and-false, false≢true}
use mathlib.Core.List.{List, [], ◌∷◌, ◌++◌, map}
use mathlib.Core.Path.{◌≡◌, refl, sym, ap, ◌∙◌}
use Prim.Native.Nat.{ℕ, zero, suc, ◌+◌, ◌-◌, ◌≤◌, ◌<◌, min}
use native.Mathlib.Decide.{dec_le}
use native.Mathlib.Omega.{arith}
use lib.ListN.{length, get_or, replicate, length-append, length-replicate, get_or-append}
use lib.Seq.{get_or-append-add, ext_get_or}
use borrow.Author.Tests.{ne_eqb}
use borrow.Table.Elements.{map_app}
use Rattle.claims.proofs.Handed.{share_out}
use Rattle.claims.specs.Orders.{side, el}
use Rattle.claims.proofs.Sums.{sum_zero}
use Rattle.claims.proofs.Totals.{fills_length}
use Rattle.lines.specs.Pieces.{pieces_of}
use Rattle.rules.proofs.Lists.{map-listed, length-listed, get_d_listed}
use Rattle.rules.proofs.Scan.{largest_le}
use Rattle.rules.specs.AuctionPrice.{Auction}
use Rattle.rules.specs.Fills.{eligible, offered, share, reaches, largest_total, fills_of}
use Rattle.rules.specs.Limits.{same_side}
use Rattle.rules.specs.Lists.{listed, largest_to}
use Rattle.rules.specs.Sheet.{most_orders}
use Rattle.rules.specs.declared.Heading.{Heading}
use Rattle.rules.specs.declared.Pieces.{Pieces}
use Rattle.rules.specs.declared.Side.{Side}
use Rattle.rules.specs.declared.Side.TheVariants.{Buy, Sell}
use Rattle.rules.specs.declared.Standing.{Standing}
use Rattle.filling.specs.Fills.{pieces, in_places, filled_with}
use Rattle.filling.specs.Handing.{HandedTo}
use Rattle.filling.specs.declared.Filled.{Filled}

-- ---- Lists of pieces

-- the numbers in their places again
numbers_in_places : (fills : List ℕ)
    → map (λ (m : Pieces). m.0) (in_places fills) ≡ fills ++ replicate (most_orders - length fills) 0
unfolding in_places
numbers_in_places fills =
    map_app (λ (m : Pieces). m.0) (map pieces fills) (replicate (most_orders - length fills) (pieces 0))
    ∙ rw (back fills, nothing (most_orders - length fills))
  where
    back : (xs : List ℕ) → map (λ (m : Pieces). m.0) (map pieces xs) ≡ xs
    back [] = refl
    back (x ∷ xs) = ap (λ l. x ∷ l) (back xs)

    nothing : (n : ℕ) → map (λ (m : Pieces). m.0) (replicate n (pieces 0)) ≡ replicate n 0
    nothing zero = refl
    nothing (suc n) = ap (λ l. 0 ∷ l) (nothing n)

-- nothing is filled anywhere
pub nothing_at : (n k : ℕ) → get_or (replicate n (pieces 0)) k (pieces 0) ≡ pieces 0
nothing_at zero k = refl
nothing_at (suc n) zero = refl
nothing_at (suc n) (suc k) = nothing_at n k

-- 120 places hold f's values where an order stands, and nothing elsewhere
places_are : (f : ℕ → ℕ) (n : ℕ) (fills : List Pieces) → n ≤ most_orders → length fills ≡ most_orders
    → ((k : ℕ) → k < n → pieces_of fills k ≡ f k) → ((k : ℕ) → n ≤ k → pieces_of fills k ≡ 0) → fills ≡ in_places (listed f n)
unfolding in_places
places_are f n fills few long here beyond =
    rw (length-listed f n, map-listed pieces f n)
    (ext_get_or (pieces 0) fills all (long ∙ sym size) (λ k l. at k (dec_le (suc k) n)))
  where
    g : ℕ → Pieces
    g k = pieces (f k)

    all : List Pieces
    all = listed g n ++ replicate (most_orders - n) (pieces 0)

    size : length all ≡ most_orders
    size = simp (length-append, length-listed, length-replicate) (omega arith)

    at : (k : ℕ) → Dec (suc k ≤ n) → get_or fills k (pieces 0) ≡ get_or all k (pieces 0)
    at k (yes l) =
        ap pieces (here k l)
        ∙ sym
        (get_or-append (listed g n) (replicate (most_orders - n) (pieces 0)) (pieces 0) k (omega (arith, length-listed g n))
        ∙ get_d_listed g n k (pieces 0) l)
    at k (no l) =
        let e : k ≡ length (listed g n) + (k - n) = omega (arith, length-listed g n, l) in
        ap pieces (beyond k (omega (arith, l)))
        ∙ sym
        (ap (λ j. get_or all j (pieces 0)) e
        ∙ get_or-append-add (listed g n) (replicate (most_orders - n) (pieces 0)) (k - n) (pieces 0)
        ∙ nothing_at (most_orders - n) (k - n))

-- ---- The fills of a round

module _ (h : Heading) (a : Auction) (os : List Standing) (few : length os ≤ most_orders) {sum : ℕ} (e : sum ≡ largest_total h a os) where
  fills_made : {fills : List Pieces} → length fills ≡ most_orders → ((k : ℕ) → k < length os → pieces_of fills k ≡ share h a os sum k)
      → ((k : ℕ) → length os ≤ k → pieces_of fills k ≡ 0) → record { total = record { 0 = sum }; fills = fills } ≡ filled_with h a os
  unfolding filled_with fills_of
  fills_made {fills} long here beyond =
      rw (places_are (share h a os sum) (length os) fills few long here beyond, e)

  -- both sides have theirs
  pub both_handed : {none bought fills : List Pieces} → ((k : ℕ) → pieces_of none k ≡ 0) → HandedTo h a os Buy sum none bought
      → HandedTo h a os Sell sum bought fills → record { total = record { 0 = sum }; fills = fills } ≡ filled_with h a os
  both_handed {none} {bought} {fills} empty buys sells =
      fills_made sells.long (λ k l. got k l (side os k) refl)
      (λ k far. sells.others k (λ l. absurd (omega arith)) ∙ buys.others k (λ l. absurd (omega arith)) ∙ empty k)
    where
      got : (k : ℕ) → k < length os → (s : Side) → side os k ≡ s → pieces_of fills k ≡ share h a os sum k
      got k l Buy q =
          sells.others k (λ m own. false≢true (ap (same_side Sell) (sym q) ∙ own)) ∙ buys.shares k l (rw q) (empty k)
      got k l Sell q =
          sells.shares k l (rw q) (buys.others k (λ m own. false≢true (ap (same_side Buy) (sym q) ∙ own)) ∙ empty k)

-- without a crossing nobody is eligible
module _ (h : Heading) (a : Auction) (os : List Standing) (apart : a.situation ≡ 0 → ⊥) where
  nobody : (k : ℕ) → el h a os k ≡ false
  unfolding eligible
  nobody k = rw (ne_eqb a.situation 0 apart)

  none_offered : (s : Side) → offered h a os s ≡ 0
  unfolding offered
  none_offered s = sum_zero _ (length os) (λ k l. rw (nobody k, and-false (same_side s (side os k))))

  none_reached : 0 ≡ largest_total h a os
  unfolding largest_total
  none_reached =
      let most : largest_to both_reach (min (offered h a os Buy) (offered h a os Sell)) ≤ min (offered h a os Buy) (offered h a os Sell) =
      largest_le both_reach (min (offered h a os Buy) (offered h a os Sell)) in
      omega (arith, none_offered Buy)
    where
      both_reach : ℕ → Bool
      both_reach t = reaches h a os Buy t && reaches h a os Sell t

  pub none_filled : length os ≤ most_orders
      → record { total = record { 0 = 0 }; fills = replicate most_orders (pieces 0) } ≡ filled_with h a os
  none_filled few =
      fills_made h a os few none_reached (length-replicate most_orders (pieces 0))
      (λ k l. ap (λ (m : Pieces). m.0) (nothing_at most_orders k) ∙ sym (share_out h a os 0 k (nobody k)))
      (λ k l. ap (λ (m : Pieces). m.0) (nothing_at most_orders k))

-- ---- For a caller

module _ (h : Heading) (a : Auction) (os : List Standing) {r : Filled} (e : r ≡ filled_with h a os) where
  pub total-given : r.total.0 ≡ largest_total h a os
  unfolding filled_with
  total-given = rw e

  pub fills_given : map (λ (m : Pieces). m.0) r.fills ≡ fills_of h a os ++ replicate (most_orders - length os) 0
  unfolding filled_with
  fills_given = rw (e, ← fills_length h a os) (numbers_in_places (fills_of h a os))
