-- What a side hands out of a total by priority adds up to that total, as far as it has the pieces. Orders are counted off by
-- the number of those ranked before them: up to each number what is handed out is the smaller of the total and what the
-- orders up to there have.
use mathlib.Core.Bool.{Bool, true, false, ◌&&◌, cond, and-false, false≢true}
use mathlib.Core.List.{List}
use mathlib.Core.Logic.{◌⊎◌, inl, inr}
use mathlib.Core.Path.{◌≡◌, refl, sym, ap, ◌∙◌}
use Prim.Native.Nat.{ℕ, zero, suc, ◌+◌, ◌-◌, ◌≤◌, ◌<◌, min, zero-le}
use native.Mathlib.Nat.{le_refl}
use native.Mathlib.Omega.{arith}
use lib.Dec.{ltb, eqb}
use lib.ListN.{length}
use borrow.Author.Tests.{ltb-true, ltb-false, lt-ltb, le-ltb, eqb-true, eqb-false, eq-eqb}
use Rattle.claims.specs.Orders.{left, side, el}
use Rattle.claims.proofs.Priority.{side_sym, side_trans, first_side, first_trans, first_irrefl, first_total}
use Rattle.claims.proofs.Sums.{one_le, ones, sum_zero, sum_add, sum_single, sum_more, Passing, search}
use Rattle.rules.proofs.Grid.{both}
use Rattle.rules.proofs.Sums.{sum_same, sum_le}
use Rattle.rules.specs.AuctionPrice.{Auction}
use Rattle.rules.specs.Fills.{ranked_before, offered, ahead, share}
use Rattle.rules.specs.Limits.{same_side, numbered}
use Rattle.rules.specs.Lists.{sum_to}
use Rattle.rules.specs.declared.Heading.{Heading}
use Rattle.rules.specs.declared.Side.{Side}
use Rattle.rules.specs.declared.Standing.{Standing}

module _ (h : Heading) (a : Auction) (os : List Standing) where
  abbrev n : ℕ
  n = length os

  abbrev before : ℕ → ℕ → Bool
  before i k = ranked_before h os i k

  -- the sum of w over the eligible orders ranked before order k
  abbrev sum_before : (ℕ → ℕ) → ℕ → ℕ
  sum_before w k = sum_to (λ j. cond (el h a os j && before j k) (w j) 0) n

  -- whoever is ranked before order k leaves room for itself there
  before_more : (w : ℕ → ℕ) (i k : ℕ) → i < n → el h a os i ≡ true → before i k ≡ true → sum_before w i + w i ≤ sum_before w k
  before_more w i k l e b =
      sum_more _ _ n i (w i) (λ j m. part j (el h a os j) (before j i) refl) l (itself (before i i) refl)
    where
      part : (j : ℕ) (t u : Bool) → before j i ≡ u → cond (t && u) (w j) 0 ≤ cond (t && before j k) (w j) 0
      part j true true q = rw (first_trans h (numbered os j) (numbered os i) (numbered os k) j i k q b) (le_refl _)
      part j true false q = zero-le
      part j false u q = zero-le

      itself : (u : Bool) → before i i ≡ u → cond (el h a os i && u) (w i) 0 + w i ≤ cond (el h a os i && before i k) (w i) 0
      itself true q = absurd (first_irrefl h (numbered os i) i q)
      itself false q = rw (e, b) (omega arith)

  -- how many eligible orders are ranked before order k
  abbrev place : ℕ → ℕ
  place k = sum_before (λ j. 1) k

  place_before : (i k : ℕ) → i < n → el h a os i ≡ true → before i k ≡ true → place i < place k
  place_before i k l e b = omega (arith, before_more (λ j. 1) i k l e b)

  -- what is ranked before order k, and its own
  pub ahead_more : (i k : ℕ) → i < n → el h a os i ≡ true → before i k ≡ true → ahead h a os i + left os i ≤ ahead h a os k
  unfolding ahead
  ahead_more i k l e b = before_more (left os) i k l e b

  -- what an eligible order gets of a total
  pub share_of : (t k : ℕ) → el h a os k ≡ true → share h a os t k ≡ min (left os k) (t - ahead h a os k)
  unfolding share
  share_of t k e = rw e

  pub share_out : (t k : ℕ) → el h a os k ≡ false → share h a os t k ≡ 0
  unfolding share
  share_out t k e = rw e

  module _ (s : Side) where
    abbrev member : ℕ → Bool
    member j = same_side s (side os j) && el h a os j

    member_sides : (i k : ℕ) → member i ≡ true → member k ≡ true
        → same_side (side os i) (side os k) ≡ true
    member_sides i k e f =
        sides s (side os i) (side os k) (both {a = same_side s (side os i)} e).0
        (both {a = same_side s (side os k)} f).0
      where
        sides : (s t u : Side) → same_side s t ≡ true → same_side s u ≡ true → same_side t u ≡ true
        sides s t u e f = side_trans t s u (side_sym s t e) f

    -- of two members the one with the lower place is ranked before the other
    place_back : (i k : ℕ) → i < n → k < n → member i ≡ true → member k ≡ true → place i < place k → before i k ≡ true
    place_back i k l m e f lower =
        go (first_total h (numbered os i) (numbered os k) i k (member_sides i k e f)
        (λ q. let z : place i ≡ place k = ap place q in omega arith))
      where
        go : (before i k ≡ true) ⊎ (before k i ≡ true) → before i k ≡ true
        go (inl b) = b
        go (inr b) = absurd (omega (arith, place_before k i m (both {a = same_side s (side os k)} f).1 b))

    -- two members have different places
    place_apart : (i k : ℕ) → i < n → k < n → member i ≡ true → member k ≡ true → place i ≡ place k → (i ≡ k → ⊥) → ⊥
    place_apart i k l m e f same other =
        go (first_total h (numbered os i) (numbered os k) i k (member_sides i k e f) other)
      where
        go : (before i k ≡ true) ⊎ (before k i ≡ true) → ⊥
        go (inl b) = omega (arith, place_before i k l (both {a = same_side s (side os i)} e).1 b)
        go (inr b) = omega (arith, place_before k i m (both {a = same_side s (side os k)} f).1 b)

    -- the sum of w over the members with a place below x, and at x
    abbrev below : (ℕ → ℕ) → ℕ → ℕ
    below w x = sum_to (λ j. cond (member j && ltb (place j) x) (w j) 0) n

    abbrev at : (ℕ → ℕ) → ℕ → ℕ
    at w x = sum_to (λ j. cond (member j && eqb (place j) x) (w j) 0) n

    below_next : (w : ℕ → ℕ) (x : ℕ) → below w (suc x) ≡ below w x + at w x
    below_next w x =
        sum_add _ _ _ n (λ j l. part j (member j) (ltb (place j) x) refl (eqb (place j) x) refl (ltb (place j) (suc x)) refl)
      where
        part : (j : ℕ) (t u : Bool) → ltb (place j) x ≡ u → (v : Bool) → eqb (place j) x ≡ v → (y : Bool)
            → ltb (place j) (suc x) ≡ y
            → cond (t && y) (w j) 0 ≡ cond (t && u) (w j) 0 + cond (t && v) (w j) 0
        part j false u e v f y g = refl
        part j true true e true f y g = absurd (omega (arith, ltb-true (place j) x e, eqb-true (place j) x f))
        part j true true e false f true g = omega arith
        part j true true e false f false g = absurd (omega (arith, ltb-true (place j) x e, ltb-false (place j) (suc x) g))
        part j true false e true f true g = omega arith
        part j true false e true f false g = absurd (omega (arith, eqb-true (place j) x f, ltb-false (place j) (suc x) g))
        part j true false e false f false g = refl
        part j true false e false f true g =
            absurd (eqb-false (place j) x f (omega (arith, ltb-false (place j) x e, ltb-true (place j) (suc x) g)))

    -- the member at x, where there is one, has all those below x ahead of it
    at_one : (w : ℕ → ℕ) (x k : ℕ) → k < n → member k ≡ true → place k ≡ x → at w x ≡ w k
    at_one w x k l e p =
        sum_single _ n k l (λ j m other. part j (member j) refl m (eqb (place j) x) refl other)
        ∙ rw (e, eq-eqb (place k) x p)
      where
        part : (j : ℕ) (t : Bool) → member j ≡ t → j < n → (u : Bool) → eqb (place j) x ≡ u → (j ≡ k → ⊥)
            → cond (t && u) (w j) 0 ≡ 0
        part j true f m true q other = absurd (place_apart j k m l f e (eqb-true (place j) x q ∙ sym p) other)
        part j true f m false q other = refl
        part j false f m u q other = refl

    below_ahead : (x k : ℕ) → k < n → member k ≡ true → place k ≡ x → below (left os) x ≡ ahead h a os k
    unfolding ahead
    below_ahead x k l e p =
        sum_same _ _ n
        (λ j m. part j m (same_side s (side os j)) refl (el h a os j) refl (ltb (place j) x) refl (before j k) refl)
      where
        own : same_side s (side os k) ≡ true
        own = (both {a = same_side s (side os k)} e).0

        part : (j : ℕ) → j < n → (t : Bool) → same_side s (side os j) ≡ t → (u : Bool) → el h a os j ≡ u
            → (v : Bool) → ltb (place j) x ≡ v → (y : Bool) → before j k ≡ y
            → cond (t && u && v) (left os j) 0 ≡ cond (u && y) (left os j) 0
        part j m t f false g v q y b = go t
          where
            go : (t : Bool) → cond (t && false && v) (left os j) 0 ≡ 0
            go true = refl
            go false = refl
        part j m false f true g v q true b =
            absurd (false≢true (sym f ∙ side_trans s (side os k) (side os j) own
            (side_sym (side os j) (side os k) (first_side h (numbered os j) (numbered os k) j k b))))
        part j m false f true g v q false b = refl
        part j m true f true g true q true b = refl
        part j m true f true g false q false b = refl
        part j m true f true g false q true b =
            absurd (omega (arith, place_before j k m g b, ltb-false (place j) x q))
        part j m true f true g true q false b =
            absurd (false≢true (sym b ∙ place_back j k m l (rw (f, g)) e (omega (arith, ltb-true (place j) x q))))

    -- ---- The sum of the shares

    pub handed_below : (t x : ℕ) → below (share h a os t) x ≡ min t (below (left os) x)
    handed_below t zero =
        sum_zero _ n (λ j l. none (share h a os t) j) ∙ sym (ap (min t) (sum_zero _ n (λ j l. none (left os) j)) ∙ omega arith)
      where
        none : (w : ℕ → ℕ) (j : ℕ) → cond (member j && ltb (place j) 0) (w j) 0 ≡ 0
        none w j = rw (le-ltb (place j) 0 zero-le, and-false (member j))
    handed_below t (suc x) =
        below_next (share h a os t) x ∙ go (search (λ j. member j && eqb (place j) x) n) (handed_below t x)
        ∙ sym (ap (min t) (below_next (left os) x))
      where
        none : (w : ℕ → ℕ) → ((j : ℕ) → j < n → (member j && eqb (place j) x) ≡ false) → at w x ≡ 0
        none w fails = sum_zero _ n (λ j l. rw (fails j l))

        go : ((j : ℕ) → j < n → (member j && eqb (place j) x) ≡ false) ⊎ Passing (λ j. member j && eqb (place j) x) n
            → below (share h a os t) x ≡ min t (below (left os) x)
            → below (share h a os t) x + at (share h a os t) x ≡ min t (below (left os) x + at (left os) x)
        go (inl fails) so_far = rw (none (share h a os t) fails, none (left os) fails) (omega arith)
        go (inr k) so_far =
            let e = both {a = member k.number} k.passes in
            let p = eqb-true (place k.number) x e.1 in
            rw (
              at_one (share h a os t) x k.number k.below e.0 p,
              at_one (left os) x k.number k.below e.0 p,
              so_far,
              below_ahead x k.number k.below e.0 p,
              share_of t k.number (both {a = same_side s (side os k.number)} e.0).1,
            )
            (omega arith)

    -- the shares of a side add up to the total, where it has the pieces
    pub shares_sum : (t : ℕ) → t ≤ offered h a os s
        → sum_to (λ k. cond (same_side s (side os k)) (share h a os t k) 0) n ≡ t
    unfolding offered share
    shares_sum t enough =
        sum_same _ _ n (λ j l. part j (same_side s (side os j)) (el h a os j) refl (place_low j))
        ∙ handed_below t top ∙ ap (min t) (sum_same _ _ n (λ j l. all j (member j) (place_low j))) ∙ omega arith
      where
        top : ℕ
        top = suc n

        place_low : (j : ℕ) → ltb (place j) top ≡ true
        place_low j = lt-ltb (place j) top (omega (arith, sum_le _ (λ i. 1) n (λ i l. one_le (el h a os i && before i j)), ones n))

        part : (j : ℕ) (t₁ u : Bool) → el h a os j ≡ u → ltb (place j) top ≡ true
            → cond t₁ (cond u (min (left os j) (t - ahead h a os j)) 0) 0
            ≡ cond (t₁ && u && ltb (place j) top) (cond u (min (left os j) (t - ahead h a os j)) 0) 0
        part j true true e low = rw low
        part j true false e low = refl
        part j false u e low = refl

        all : (j : ℕ) (u : Bool) → ltb (place j) top ≡ true → cond (u && ltb (place j) top) (left os j) 0 ≡ cond u (left os j) 0
        all j true low = rw low
        all j false low = refl
