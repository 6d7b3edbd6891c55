-- What orders that stand one after the other say of the side: at an order's place all up to it stand, beyond it none from it on. So they tell
-- the side's curve, and how far the side reaches.
use mathlib.Core.Bool.{cond}
use mathlib.Core.List.{List}
use mathlib.Core.Logic.{◌⊎◌, inl, inr}
use mathlib.Core.Path.{◌≡◌, refl, sym, ◌∙◌}
use Prim.Native.Nat.{ℕ, suc, ◌≤◌, ◌<◌, zero-le}
use native.Mathlib.Nat.{le_refl, le_trans}
use native.Mathlib.Omega.{arith}
use lib.Dec.{leb}
use borrow.Author.Tests.{le-leb, lt-leb}
use Rattle.claims.proofs.PiecePlaces.{piece_place_is}
use Rattle.claims.specs.Places.{piece_place}
use Rattle.claims.proofs.Sums.{last_or_before, sum_longer, sum_stops}
use Rattle.rules.proofs.Grid.{OnGrid}
use Rattle.rules.proofs.Tests.{by_test}
use Rattle.rules.proofs.Sums.{sum_same, sum_le}
use Rattle.rules.specs.Grid.{last_price}
use Rattle.rules.specs.Lists.{sum_to}
use Rattle.sorting.specs.Sorted.{item}
use Rattle.lines.specs.Keys.{place_in}
use Rattle.lines.specs.Lines.{Kept, place_at, Stands}

-- ---- How far a side reaches

module _ {F : ℕ → ℕ} {n : ℕ} {place sum : ℕ → ℕ} (l : Stands F n place sum) where
  -- the order that holds piece v has the place that is reached with v pieces
  pub held_by : (j v : ℕ) → j < n → sum j < v → v ≤ sum (suc j) → piece_place F v ≡ place j
  held_by j v few past most =
      piece_place_is F v (place j) (l.placed j few) (λ h. le_trans most (l.stand j few h))
      (λ k far high. omega (arith, l.beyond j k few far high))

  pub held_by_none : (v : ℕ) → sum n < v → piece_place F v ≡ 0
  held_by_none v past =
      piece_place_is F v 0 zero-le (λ h. absurd (omega arith)) (λ k far high. omega (arith, l.all k far high))

-- ---- Orders one after the other, each with so many pieces

-- a larger entry has no worse place
pub placed_by : {a b : ℕ} → a ≤ b → place_in a ≤ place_in b
placed_by {a} {b} h = omega arith

-- what an entry adds at place p, where it has w pieces
abbrev pub adds : (ℕ → ℕ) → ℕ → ℕ → ℕ
adds w p x = cond (leb p (place_in x)) (w x) 0

pub adds_nothing : (w : ℕ → ℕ) (p : ℕ) → 1 ≤ p → adds w p 0 ≡ 0
adds_nothing w p h = rw (lt-leb p (place_in 0) (omega arith))

module _ {entry_of : ℕ → ℕ} {m n : ℕ} {xs : List ℕ} (q : Kept entry_of m n xs) (w : ℕ → ℕ)
    (placed : (j : ℕ) → j < n → place_in (item xs j) ≤ last_price) where
  -- the pieces of the first j
  abbrev sum : ℕ → ℕ
  sum j = sum_to (λ i. w (item xs i)) j

  adds_most : (p j : ℕ) → sum_to (λ i. adds w p (item xs i)) j ≤ sum j
  adds_most p j =
      sum_le _ _ j
      (λ i b. by_test (λ r. r ≤ w (item xs i)) (leb p (place_in (item xs i))) (λ e. le_refl _) (λ e. zero-le))

  -- beyond an order's place none from it on stands
  adds_beyond : (j p : ℕ) → j < n → place_in (item xs j) < p
      → sum_to (λ i. adds w p (item xs i)) n ≡ sum_to (λ i. adds w p (item xs i)) j
  adds_beyond j p l far =
      sum_stops (λ i. adds w p (item xs i)) j n (omega arith) (λ i from to. nothing i (worse i to (last_or_before (omega arith))))
    where
      worse : (i : ℕ) → i < n → (j ≡ i) ⊎ (j < i) → place_in (item xs i) ≤ place_in (item xs j)
      worse i to (inl e) = rw e (le_refl _)
      worse i to (inr b) = placed_by (q.falling j i b to)

      nothing : (i : ℕ) → place_in (item xs i) ≤ place_in (item xs j) → adds w p (item xs i) ≡ 0
      nothing i b = rw (lt-leb p (place_in (item xs i)) (omega arith))

  -- at its place all up to it stand
  adds_up_to : (j : ℕ) → j < n → sum_to (λ i. adds w (place_in (item xs j)) (item xs i)) (suc j) ≡ sum (suc j)
  adds_up_to j l = sum_same _ (λ i. w (item xs i)) (suc j) (λ i b. here i (better i (last_or_before b)))
    where
      better : (i : ℕ) → (i ≡ j) ⊎ (i < j) → place_in (item xs j) ≤ place_in (item xs i)
      better i (inl e) = rw e (le_refl _)
      better i (inr b) = placed_by (q.falling i j b l)

      here : (i : ℕ) → place_in (item xs j) ≤ place_in (item xs i) → adds w (place_in (item xs j)) (item xs i) ≡ w (item xs i)
      here i b = rw (le-leb (place_in (item xs j)) (place_in (item xs i)) b)

  -- where F k is what the orders' entries add at place k, it is what stands there
  pub kept_stands : (F : ℕ → ℕ) → ((p : ℕ) → OnGrid p → F p ≡ sum_to (λ k. adds w p (entry_of k)) m)
      → Stands F n (place_at xs) sum
  unfolding sum_to
  kept_stands F told = record {
    placed = placed;
    stand = λ j l some.
        rw (all (place_in (item xs j)) (some, placed j l), ← adds_up_to j l)
        (sum_longer (λ i. adds w (place_in (item xs j)) (item xs i)) (suc j) n l);
    beyond = λ j k l far most. rw (all k (omega arith, most), adds_beyond j k l far) (adds_most k j);
    all = λ k low high. rw (all k (low, high)) (adds_most k n);
    none = refl;
  }
    where
      all : (p : ℕ) → OnGrid p → F p ≡ sum_to (λ j. adds w p (item xs j)) n
      all p on = told p on ∙ sym (q.kept (adds w p) (adds_nothing w p on.0))
