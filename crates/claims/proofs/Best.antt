-- The best price with a property, for a side given as parameter: what the scan of the grid finds, and how to recognise it.
-- A price has a place, counted from the side's worst price on; on that scale higher is better for both sides.
use mathlib.Core.Bool.{Bool, true, false, false≢true}
use mathlib.Core.Option.{none, some}
use mathlib.Core.Path.{◌≡◌, refl, sym, ap, ◌∙◌}
use Prim.Native.Nat.{ℕ, zero, suc, ◌≤◌, ◌<◌}
use native.Mathlib.Nat.{le_antisymm}
use native.Mathlib.Omega.{arith}
use lib.Dec.{leb}
use borrow.Author.Tests.{leb-true, leb-false}
use Rattle.claims.proofs.Places.{price_placed, placed_on}
use Rattle.claims.specs.Places.{place_of}
use Rattle.rules.proofs.Ends.{price_at, best_place}
use Rattle.rules.proofs.Grid.{OnGrid}
use Rattle.rules.proofs.Scan.{largest_le, largest_ge, largest_passes}
use Rattle.rules.specs.Grid.{last_price, nth, best_among}
use Rattle.rules.specs.Lists.{largest_to}
use Rattle.rules.specs.declared.Side.{Side}
use Rattle.rules.specs.declared.Side.TheVariants.{Buy, Sell}

-- for side s the price q is better than p
abbrev pub Better : Side → ℕ → ℕ → Type 0
Better Buy q p = p < q
Better Sell q p = q < p

-- the price p of the grid passes the test, and no better one does
pub record Best (s : Side) (P : ℕ → Bool) (p : ℕ) : Type 0 where
  pub on : OnGrid p
  pub passes : P p ≡ true
  pub only : (q : ℕ) → OnGrid q → Better s q p → P q ≡ false

-- no price of the grid passes the test
abbrev pub NonePasses : (ℕ → Bool) → Type 0
NonePasses P = (q : ℕ) → OnGrid q → P q ≡ false

-- ---- Places

nth_on : (s : Side) (k : ℕ) → OnGrid k → OnGrid (nth s k)
nth_on Buy k on = on
nth_on Sell k on = (omega arith, omega arith)

further : (s : Side) (p k : ℕ) → OnGrid p → k ≤ last_price → place_of s p < k → Better s (nth s k) p
further Buy p k on h l = omega arith
further Sell p k on h l = omega arith

pub price_at_lem : (s : Side) (k : ℕ) → 1 ≤ k → price_at s k ≡ some (nth s k)
price_at_lem s zero h = absurd (omega arith)
price_at_lem s (suc k) h = refl

module _ (s : Side) (P : ℕ → Bool) where
  -- the last place whose price passes, 0 where there is none
  abbrev last : ℕ
  last = largest_to (λ k. P (nth s k)) last_price

  passing : (q : ℕ) → OnGrid q → P q ≡ true → place_of s q ≤ last
  passing q on e = largest_ge (λ k. P (nth s k)) last_price (place_of s q) (placed_on s q on).1 (ap P (price_placed s q on) ∙ e)

  last_on : (k : ℕ) → last ≡ suc k → OnGrid (suc k)
  last_on k e = (omega arith, omega (arith, largest_le (λ k. P (nth s k)) last_price))

  last_passes : (k : ℕ) → last ≡ suc k → P (nth s (suc k)) ≡ true
  last_passes k e =
      ap (λ (j : ℕ). P (nth s j)) (sym e) ∙ largest_passes (λ k. P (nth s k)) last_price (omega arith)

  pub best_is : (p : ℕ) → Best s P p → best_among s P last_price ≡ some p
  best_is p b =
      best_place s P last_price ∙ ap (price_at s) (le_antisymm (at_most last refl) (passing p b.on b.passes))
      ∙ price_at_lem s (place_of s p) (placed_on s p b.on).0 ∙ ap some (price_placed s p b.on)
    where
      beyond : (k : ℕ) → last ≡ suc k → (t : Bool) → leb (suc k) (place_of s p) ≡ t → last ≤ place_of s p
      beyond k e true t = omega (arith, leb-true (suc k) (place_of s p) t)
      beyond k e false t =
          let on = last_on k e in
          let fails = b.only (nth s (suc k)) (nth_on s (suc k) on)
          (further s p (suc k) b.on on.1 (leb-false (suc k) (place_of s p) t)) in
          absurd (false≢true (sym fails ∙ last_passes k e))

      at_most : (k : ℕ) → last ≡ k → last ≤ place_of s p
      at_most zero e = omega (arith, placed_on s p b.on)
      at_most (suc k) e = beyond k e (leb (suc k) (place_of s p)) refl

  pub none_is : NonePasses P → best_among s P last_price ≡ none
  none_is fails = best_place s P last_price ∙ ap (price_at s) (nowhere last refl)
    where
      nowhere : (k : ℕ) → last ≡ k → last ≡ 0
      nowhere zero e = e
      nowhere (suc k) e =
          absurd (false≢true (sym (fails (nth s (suc k)) (nth_on s (suc k) (last_on k e))) ∙ last_passes k e))
