-- A round with a total of at least 1 fills some order completely. If it did not, the order of each side that gets the last
-- piece would be filled in part and could take one piece more, those before it being filled and those after it empty; so both
-- sides could reach a larger total.
use mathlib.Core.Bool.{Bool, true, false, not, ◌&&◌, ◌||◌, cond, false≢true}
use mathlib.Core.List.{List}
use mathlib.Core.Logic.{◌⊎◌, inl, inr}
use mathlib.Core.Path.{◌≡◌, refl, sym, ap, ◌∙◌}
use Prim.Native.Nat.{ℕ, ◌+◌, ◌-◌, ◌≤◌, ◌<◌, min, zero-le}
use native.Mathlib.Decide.{ℕ_discrete}
use native.Mathlib.Nat.{le_refl}
use native.Mathlib.Omega.{arith}
use lib.Dec.{ltb, eqb}
use lib.ListN.{length}
use borrow.Author.Tests.{le-leb, ltb-true, ltb-false, lt-ltb, eq-eqb}
use Rattle.claims.proofs.Fills.{fills_lawful}
use Rattle.claims.proofs.Handed.{ahead_more, share_of, share_out}
use Rattle.claims.specs.Orders.{left, side, el}
use Rattle.claims.proofs.Priority.{side_is, side_same, side_sym, first_side, first_irrefl, first_total, first_eligible}
use Rattle.claims.proofs.Sums.{sum_zero, sum_more, Passing, search}
use Rattle.claims.proofs.Totals.{or_right, every_from, largest_most, fill_at, total-is}
use Rattle.rules.specs.AuctionPrice.{Auction}
use Rattle.rules.specs.Fills.{ranked_before, fill_of, total, offered, ahead, share, unsplit, reaches, largest_total, fills_of}
use Rattle.claims.specs.Fills.{FilledCompletely}
use Rattle.rules.specs.Limits.{same_side, numbered}
use Rattle.rules.specs.Sheet.{D, H}
use Rattle.rules.specs.declared.Heading.{Heading}
use Rattle.rules.specs.declared.Side.{Side}
use Rattle.rules.specs.declared.Side.TheVariants.{Buy, Sell}
use Rattle.rules.specs.declared.Standing.{Standing}

-- what a part of a side's total tells, where it is above 0
side_and_some : (t : Bool) (x : ℕ) → ltb 0 (cond t x 0) ≡ true → (t ≡ true) × (0 < x)
side_and_some true x e = (refl, ltb-true 0 x e)
side_and_some false x e = absurd (omega (arith, ltb-true 0 0 e))

module _ (h : Heading) (a : Auction) (os : List Standing) (band : D h ≤ H h) where
  abbrev n : ℕ
  n = length os

  abbrev before : ℕ → ℕ → Bool
  before i k = ranked_before h os i k

  abbrev sum : ℕ
  sum = largest_total h a os

  abbrev fill : ℕ → ℕ
  fill k = fill_of (fills_of h a os) k

  -- an order of side s that gets pieces
  some_filled : (s : Side) → 1 ≤ sum → Passing (λ k. ltb 0 (cond (same_side s (side os k)) (fill k) 0)) n
  unfolding total
  some_filled s pos = go (search (λ k. ltb 0 (cond (same_side s (side os k)) (fill k) 0)) n)
    where
      go : ((j : ℕ) → j < n → ltb 0 (cond (same_side s (side os j)) (fill j) 0) ≡ false)
          ⊎ Passing (λ k. ltb 0 (cond (same_side s (side os k)) (fill k) 0)) n
          → Passing (λ k. ltb 0 (cond (same_side s (side os k)) (fill k) 0)) n
      go (inr k) = k
      go (inl none) =
          let z : total s os (fills_of h a os) ≡ 0 =
          sum_zero _ n (λ j l. omega (arith, ltb-false 0 (cond (same_side s (side os j)) (fill j) 0) (none j l))) in
          absurd (omega (arith, total-is h a os s))

  -- ---- One that is filled in part could take one piece more

  module _ (k : ℕ) (l : k < n) (some : 0 < fill k) (short : fill k < left os k) where
    taken : el h a os k ≡ true
    taken = (fills_lawful h a os band).F1-eligible k l some

    -- its total ends within it
    ends_within : ahead h a os k + fill k ≡ sum
    ends_within =
        let q : fill k ≡ min (left os k) (sum - ahead h a os k) = fill_at h a os k l ∙ share_of h a os sum k taken in
        omega arith

    ahead_offered : ahead h a os k + left os k ≤ offered h a os (side os k)
    unfolding ahead offered
    ahead_offered = sum_more _ _ n k (left os k) (λ j m. part j (el h a os j) (before j k) refl) l (own (before k k) refl)
      where
        part : (j : ℕ) (t u : Bool) → before j k ≡ u
            → cond (t && u) (left os j) 0 ≤ cond (same_side (side os k) (side os j) && t) (left os j) 0
        part j true true b =
            rw (side_sym (side os j) (side os k) (first_side h (numbered os j) (numbered os k) j k b)) (le_refl _)
        part j true false b = zero-le
        part j false u b = zero-le

        own : (u : Bool) → before k k ≡ u
            → cond (el h a os k && u) (left os k) 0 + left os k
            ≤ cond (same_side (side os k) (side os k) && el h a os k) (left os k) 0
        own true b = absurd (first_irrefl h (numbered os k) k b)
        own false b = rw (taken, side_same (side os k)) (omega arith)

    -- it is not all-or-none,
    basic : (numbered os k).all_or_none ≡ false
    basic = go (numbered os k).all_or_none refl
      where
        whole : FilledCompletely os (fills_of h a os) k ⊎ (fill k ≡ 0) → ⊥
        whole (inl full) = omega arith
        whole (inr none) = omega arith

        go : (t : Bool) → (numbered os k).all_or_none ≡ t → (numbered os k).all_or_none ≡ false
        go true e = absurd (whole ((fills_lawful h a os band).F3 k l e))
        go false e = e

    -- those before it stay filled completely,
    before_whole : (j : ℕ) → j < n → before j k ≡ true → share h a os (sum + 1) j ≡ left os j
    before_whole j m b =
        let e : el h a os j ≡ true = first_eligible h a (numbered os j) (numbered os k) j k band b taken in
        let q : ahead h a os j + left os j ≤ ahead h a os k = ahead_more h a os j k m e b in
        share_of h a os (sum + 1) j e ∙ omega (arith, ends_within)

    -- those after it stay empty,
    after_empty : (j : ℕ) → before k j ≡ true → share h a os (sum + 1) j ≡ 0
    after_empty j b = go (el h a os j) refl
      where
        go : (t : Bool) → el h a os j ≡ t → share h a os (sum + 1) j ≡ 0
        go false e = share_out h a os (sum + 1) j e
        go true e =
            let q : ahead h a os k + left os k ≤ ahead h a os j = ahead_more h a os k j l taken b in
            share_of h a os (sum + 1) j e ∙ omega (arith, ends_within)

    -- so its side can reach one piece more
    one_more : reaches h a os (side os k) (sum + 1) ≡ true
    unfolding reaches
    one_more = rw (le-leb _ _ enough, every_from _ n (λ j m. whole j m (same_side (side os k) (side os j)) refl))
      where
        enough : sum + 1 ≤ offered h a os (side os k)
        enough = omega (arith, ends_within, ahead_offered)

        ranked : (j : ℕ) → j < n → (before j k ≡ true) ⊎ (before k j ≡ true)
            → (eqb (share h a os (sum + 1) j) (left os j) || eqb (share h a os (sum + 1) j) 0) ≡ true
        ranked j m (inl b) = rw (eq-eqb (share h a os (sum + 1) j) (left os j) (before_whole j m b))
        ranked j m (inr b) =
            or_right (eqb (share h a os (sum + 1) j) (left os j)) (eq-eqb (share h a os (sum + 1) j) 0 (after_empty j b))

        apart : (j : ℕ) → j < n → same_side (side os k) (side os j) ≡ true → Dec (j ≡ k)
            → unsplit h a os (sum + 1) j ≡ true
        apart j m q (yes e) = rw (e, basic)
        apart j m q (no other) =
            or_right (not (numbered os j).all_or_none)
            (ranked j m (first_total h (numbered os j) (numbered os k) j k (side_sym (side os k) (side os j) q) other))

        whole : (j : ℕ) → j < n → (t : Bool) → same_side (side os k) (side os j) ≡ t
            → (not t || unsplit h a os (sum + 1) j) ≡ true
        whole j m false q = refl
        whole j m true q = apart j m q (ℕ_discrete j k)

  -- ---- So some order is filled completely

  abbrev pub used_up : ℕ → Bool
  used_up k = ltb 0 (left os k) && eqb (fill k) (left os k)

  pub uses_up : 1 ≤ sum → Passing used_up n
  uses_up pos = go (search used_up n)
    where
      short : ((j : ℕ) → j < n → used_up j ≡ false) → (k : ℕ) → k < n → 0 < fill k
          → Dec (fill k ≡ left os k) → fill k < left os k
      short none k l some (yes full) =
          absurd (false≢true (sym (none k l) ∙ rw (lt-ltb 0 (left os k) (omega arith), eq-eqb (fill k) (left os k) full)))
      short none k l some (no less) = omega (arith, (fills_lawful h a os band).F1-within k l)

      one_more_on : ((j : ℕ) → j < n → used_up j ≡ false) → (s : Side) → reaches h a os s (sum + 1) ≡ true
      one_more_on none s =
          let p = some_filled s pos in
          let k = p.number in
          let t = side_and_some (same_side s (side os k)) (fill k) p.passes in
          ap (λ (t : Side). reaches h a os t (sum + 1)) (side_is s (side os k) t.0)
          ∙ one_more k p.below t.1 (short none k p.below t.1 (ℕ_discrete (fill k) (left os k)))

      go : ((j : ℕ) → j < n → used_up j ≡ false) ⊎ Passing used_up n → Passing used_up n
      go (inr k) = k
      go (inl none) =
          absurd (omega (arith, largest_most h a os (sum + 1) (one_more_on none Buy) (one_more_on none Sell)))
