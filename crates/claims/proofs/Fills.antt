-- The fills that the function `fills_of` gives are those that are meant: they meet F1–F4, and every other list of fills
-- that meets them has a smaller total. F1 and F2 leave a side one way to hand out its total, the one by priority; so a lawful
-- list is known by its total, and each lawful total is one that both sides can reach.
use mathlib.Core.Bool.{Bool, true, false, not, ◌&&◌, ◌||◌, cond, false≢true}
use mathlib.Core.List.{List}
use mathlib.Core.Logic.{◌⊎◌, inl, inr, ◌≢◌}
use mathlib.Core.Path.{◌≡◌, refl, sym, ap, ◌∙◌}
use Prim.Native.Nat.{ℕ, zero, suc, ◌+◌, ◌-◌, ◌≤◌, ◌<◌, min, zero-le}
use native.Mathlib.Decide.{ℕ_discrete}
use native.Mathlib.Nat.{le_refl, eq-or-lt_of_le}
use native.Mathlib.Omega.{arith}
use lib.Dec.{ltb, eqb}
use lib.ListN.{length}
use lib.Seq.{ext_get_or}
use borrow.Author.Tests.{le-leb, ltb-true, ltb-false, eqb-true, eq-eqb}
use Rattle.claims.proofs.Handed.{ahead_more, share_of}
use Rattle.claims.specs.Orders.{left, side, el}
use Rattle.claims.proofs.Priority.{side_is, side_same, side_sym, first_side, first_irrefl, first_total, first_eligible}
use Rattle.claims.proofs.Sums.{sum_more, sum_most}
use Rattle.claims.proofs.Totals.{every_from, or_right, either, reached_unsplit, largest_reached, largest_most, fills_length, fill_at, total-is}
use Rattle.rules.proofs.Sums.{sum_le}
use Rattle.rules.specs.AuctionPrice.{Auction}
use Rattle.rules.specs.Fills.{ranked_before, fill_of, total, offered, ahead, share, unsplit, reaches, largest_total, fills_of}
use Rattle.claims.specs.Fills.{FilledCompletely, Lawful, Largest}
use Rattle.rules.specs.Limits.{same_side, numbered}
use Rattle.rules.specs.Sheet.{D, H}
use Rattle.rules.specs.declared.Heading.{Heading}
use Rattle.rules.specs.declared.Side.{Side}
use Rattle.rules.specs.declared.Side.TheVariants.{Buy, Sell}
use Rattle.rules.specs.declared.Standing.{Standing}

module _ (h : Heading) (a : Auction) (os : List Standing) (band : D h ≤ H h) where
  abbrev n : ℕ
  n = length os

  abbrev before : ℕ → ℕ → Bool
  before i k = ranked_before h os i k

  -- ---- A lawful list is known by its total

  module _ (fills : List ℕ) (lawful : Lawful h a os fills) where
    abbrev f : ℕ → ℕ
    f k = fill_of fills k

    -- only eligible orders are filled
    not_eligible : (k : ℕ) → k < n → el h a os k ≡ false → f k ≡ 0
    not_eligible k l e = go (f k) refl
      where
        go : (x : ℕ) → f k ≡ x → f k ≡ 0
        go zero q = q
        go (suc x) q = absurd (false≢true (sym e ∙ lawful.F1-eligible k l (omega arith)))

    -- below one not filled completely nobody gets anything
    after_nothing : (k j : ℕ) → k < n → j < n → (FilledCompletely os fills k → ⊥) → before k j ≡ true → f j ≡ 0
    after_nothing k j l m short b = go (el h a os j) refl
      where
        go : (t : Bool) → el h a os j ≡ t → f j ≡ 0
        go true e = lawful.F2 k j l m e b short
        go false e = not_eligible j m e

    -- above one that gets something everybody is filled completely
    above_full : (k j : ℕ) → k < n → j < n → el h a os k ≡ true → 0 < f k → before j k ≡ true → f j ≡ left os j
    above_full k j l m e some b = go (ℕ_discrete (f j) (left os j))
      where
        go : Dec (f j ≡ left os j) → f j ≡ left os j
        go (yes q) = q
        go (no short) = absurd (omega (arith, lawful.F2 j k m l e b short))

    -- the total is at most what is ahead of an order not filled completely, and its fill
    total-most : (k : ℕ) → k < n → el h a os k ≡ true → (FilledCompletely os fills k → ⊥)
        → total (side os k) os fills ≤ ahead h a os k + f k
    unfolding total ahead
    total-most k l e short =
        sum_most _ _ n k (f k) (λ j m other. part j m other (same_side (side os k) (side os j)) refl) l
        (own (same_side (side os k) (side os k)))
      where
        own : (t : Bool) → cond t (f k) 0 ≤ cond (el h a os k && before k k) (left os k) 0 + f k
        own true = omega arith
        own false = zero-le

        ranked : (j : ℕ) → j < n → (before j k ≡ true) ⊎ (before k j ≡ true)
            → f j ≤ cond (el h a os j && before j k) (left os j) 0
        ranked j m (inl b) =
            rw (first_eligible h a (numbered os j) (numbered os k) j k band b e, b) (lawful.F1-within j m)
        ranked j m (inr b) = rw (after_nothing k j l m short b) zero-le

        part : (j : ℕ) → j < n → (j ≡ k → ⊥) → (t : Bool) → same_side (side os k) (side os j) ≡ t
            → cond t (f j) 0 ≤ cond (el h a os j && before j k) (left os j) 0
        part j m other true q =
            ranked j m (first_total h (numbered os j) (numbered os k) j k (side_sym (side os k) (side os j) q) other)
        part j m other false q = zero-le

    -- it is at least what is ahead of an order that gets something, and its fill
    total-least : (k : ℕ) → k < n → el h a os k ≡ true → 0 < f k → ahead h a os k + f k ≤ total (side os k) os fills
    unfolding total ahead
    total-least k l e some = sum_more _ _ n k (f k) (λ j m. part j m (el h a os j) (before j k) refl) l (own (before k k) refl)
      where
        own : (t : Bool) → before k k ≡ t
            → cond (el h a os k && t) (left os k) 0 + f k ≤ cond (same_side (side os k) (side os k)) (f k) 0
        own true q = absurd (first_irrefl h (numbered os k) k q)
        own false q = rw (e, side_same (side os k)) (omega arith)

        part : (j : ℕ) → j < n → (t u : Bool) → before j k ≡ u
            → cond (t && u) (left os j) 0 ≤ cond (same_side (side os k) (side os j)) (f j) 0
        part j m true true b =
            let q = side_sym (side os j) (side os k) (first_side h (numbered os j) (numbered os k) j k b) in
            rw (q, above_full k j l m e some b) (le_refl _)
        part j m true false b = zero-le
        part j m false u b = zero-le

    -- so each order has its share of its side's total
    fill_is_share : (k : ℕ) → k < n → f k ≡ share h a os (total (side os k) os fills) k
    unfolding share
    fill_is_share k l = go (el h a os k) refl (f k) refl (ℕ_discrete (f k) (left os k))
      where
        go : (t : Bool) → el h a os k ≡ t → (x : ℕ) → f k ≡ x → Dec (f k ≡ left os k)
            → f k ≡ cond t (min (left os k) (total (side os k) os fills - ahead h a os k)) 0
        go false e x q full = not_eligible k l e
        go true e zero q (yes full) = omega arith
        go true e (suc x) q (yes full) = omega (arith, total-least k l e (omega arith))
        go true e zero q (no short) = omega (arith, total-most k l e short)
        go true e (suc x) q (no short) =
            omega (arith, total-least k l e (omega arith), total-most k l e short, lawful.F1-within k l)

    -- a side's total is no more than it has
    total-offered : (s : Side) → total s os fills ≤ offered h a os s
    unfolding total offered
    total-offered s = sum_le _ _ n (λ j m. part j m (same_side s (side os j)) (el h a os j) refl)
      where
        part : (j : ℕ) → j < n → (t u : Bool) → el h a os j ≡ u → cond t (f j) 0 ≤ cond (t && u) (left os j) 0
        part j m true true e = lawful.F1-within j m
        part j m true false e = rw (not_eligible j m e) (le_refl 0)
        part j m false u e = zero-le

    -- and splits no all-or-none order,
    fill_unsplit : (s : Side) (k : ℕ) → k < n → same_side s (side os k) ≡ true → unsplit h a os (total s os fills) k ≡ true
    fill_unsplit s k l q = rw (← shared) (go (numbered os k).all_or_none refl)
      where
        shared : f k ≡ share h a os (total s os fills) k
        shared = fill_is_share k l ∙ ap (λ (t : Side). share h a os (total t os fills) k) (sym (side_is s (side os k) q))

        go : (t : Bool) → (numbered os k).all_or_none ≡ t → (not t || (eqb (f k) (left os k) || eqb (f k) 0)) ≡ true
        go false e = refl
        go true e = whole (lawful.F3 k l e)
          where
            whole : FilledCompletely os fills k ⊎ (f k ≡ 0) → (eqb (f k) (left os k) || eqb (f k) 0) ≡ true
            whole (inl full) = rw (eq-eqb (f k) (left os k) full)
            whole (inr none) = or_right (eqb (f k) (left os k)) (eq-eqb (f k) 0 none)

    -- so the side can reach its total
    total-reached : (s : Side) → reaches h a os s (total s os fills) ≡ true
    unfolding reaches
    total-reached s = rw (le-leb _ _ (total-offered s), every_from _ n (λ k l. whole k l (same_side s (side os k)) refl))
      where
        whole : (k : ℕ) → k < n → (t : Bool) → same_side s (side os k) ≡ t
            → (not t || unsplit h a os (total s os fills) k) ≡ true
        whole k l false q = refl
        whole k l true q = fill_unsplit s k l q

  -- ---- The fills

  abbrev sum : ℕ
  sum = largest_total h a os

  abbrev fills : List ℕ
  fills = fills_of h a os

  share_within : (k : ℕ) → share h a os sum k ≤ left os k
  unfolding share
  share_within k = go (el h a os k)
    where
      go : (t : Bool) → cond t (min (left os k) (sum - ahead h a os k)) 0 ≤ left os k
      go true = omega arith
      go false = zero-le

  share_eligible : (k : ℕ) → 0 < share h a os sum k → el h a os k ≡ true
  unfolding share
  share_eligible k = go (el h a os k)
    where
      go : (t : Bool) → 0 < cond t (min (left os k) (sum - ahead h a os k)) 0 → t ≡ true
      go true some = refl
      go false some = absurd (omega arith)

  -- F2: whoever stands below one with less than its remainder has as much ahead of it as there is
  below_short : (above k : ℕ) → above < n → k < n → el h a os k ≡ true → before above k ≡ true
      → (FilledCompletely os fills above → ⊥) → fill_of fills k ≡ 0
  below_short above k l m e b short =
      let e₁ : el h a os above ≡ true = first_eligible h a (numbered os above) (numbered os k) above k band b e in
      let less : share h a os sum above ≡ left os above → ⊥ = λ q. short (fill_at h a os above l ∙ q) in
      let q₁ : share h a os sum above ≡ min (left os above) (sum - ahead h a os above) = share_of h a os sum above e₁ in
      let q₂ : share h a os sum k ≡ min (left os k) (sum - ahead h a os k) = share_of h a os sum k e in
      fill_at h a os k m ∙ q₂ ∙ nothing (strictly less q₁) (ahead_more h a os above k l e₁ b)
    where
      strictly : (share h a os sum above ≡ left os above → ⊥)
          → share h a os sum above ≡ min (left os above) (sum - ahead h a os above)
          → sum < ahead h a os above + left os above
      strictly less q = go (ltb sum (ahead h a os above + left os above)) refl
        where
          go : (t : Bool) → ltb sum (ahead h a os above + left os above) ≡ t → sum < ahead h a os above + left os above
          go true t = ltb-true _ _ t
          go false t = absurd (less (q ∙ omega (arith, ltb-false sum (ahead h a os above + left os above) t)))

      nothing : sum < ahead h a os above + left os above → ahead h a os above + left os above ≤ ahead h a os k
          → min (left os k) (sum - ahead h a os k) ≡ 0
      nothing l m = omega arith

  -- F3: of a total that a side can reach
  all_or_nothing : (k : ℕ) → k < n → (numbered os k).all_or_none ≡ true → FilledCompletely os fills k ⊎ (fill_of fills k ≡ 0)
  all_or_nothing k l e =
      let whole = reached_unsplit h a os (side os k) sum k (largest_reached h a os (side os k)) l (side_same (side os k)) in
      go (either (eqb (share h a os sum k) (left os k)) (rw e at whole))
    where
      go : (eqb (share h a os sum k) (left os k) ≡ true) ⊎ (eqb (share h a os sum k) 0 ≡ true)
          → FilledCompletely os fills k ⊎ (fill_of fills k ≡ 0)
      go (inl q) = inl (fill_at h a os k l ∙ eqb-true _ _ q)
      go (inr q) = inr (fill_at h a os k l ∙ eqb-true _ _ q)

  pub fills_lawful : Lawful h a os fills
  fills_lawful = record {
    F1-eligible = λ k l some. share_eligible k (rw (fill_at h a os k l) at some);
    F1-within = λ k l. rw (fill_at h a os k l) (share_within k);
    F2 = below_short;
    F3 = all_or_nothing;
    F4 = total-is h a os Buy ∙ sym (total-is h a os Sell);
  }

  -- a lawful list of the same total is the same list
  same_total : (others : List ℕ) → length others ≡ n → Lawful h a os others → ((s : Side) → total s os others ≡ sum)
      → others ≡ fills
  same_total others long lawful same =
      ext_get_or 0 others fills (long ∙ sym (fills_length h a os))
      (λ k l. let m : k < n = omega arith in
      fill_is_share others lawful k m ∙ ap (λ (x : ℕ). share h a os x k) (same (side os k)) ∙ sym (fill_at h a os k m))

  -- the fills are those that are meant
  pub fills_largest : Largest h a os fills
  fills_largest = record { each = fills_length h a os; lawful = fills_lawful; largest = smaller }
    where
      sides : (others : List ℕ) → Lawful h a os others → (s : Side) → total s os others ≡ total Buy os others
      sides others lawful Buy = refl
      sides others lawful Sell = sym lawful.F4

      smaller : (others : List ℕ) → length others ≡ n → Lawful h a os others → others ≢ fills
          → total Buy os others < total Buy os fills
      smaller others long lawful different =
          rw (total-is h a os Buy)
          (go (eq-or-lt_of_le
          (largest_most h a os (total Buy os others) (total-reached others lawful Buy)
          (rw (← lawful.F4) at (total-reached others lawful Sell)))))
        where
          go : (total Buy os others ≡ sum) ⊎ (total Buy os others < sum) → total Buy os others < sum
          go (inl q) = absurd (different (same_total others long lawful (λ s. sides others lawful s ∙ q)))
          go (inr l) = l
