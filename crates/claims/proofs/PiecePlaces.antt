-- How far a side reaches: the place of its best price at which at least v pieces stand, and how to recognise it. F k is what stands
-- at the k-th price from the side's worst one on.
use mathlib.Core.Path.{◌≡◌}
use Prim.Native.Nat.{ℕ, zero, suc, ◌≤◌, ◌<◌, zero-le}
use native.Mathlib.Decide.{dec_le}
use native.Mathlib.Nat.{le_antisymm}
use native.Mathlib.Omega.{arith}
use lib.Dec.{leb}
use borrow.Author.Tests.{leb-true, le-leb}
use Rattle.claims.specs.Places.{piece_place}
use Rattle.rules.proofs.Ends.{price_at, best_place}
use Rattle.rules.proofs.Grid.{OnGrid}
use Rattle.rules.proofs.Scan.{largest_le, largest_ge, largest_passes}
use Rattle.rules.specs.Grid.{last_price, nth, over_grid}
use Rattle.rules.specs.declared.Side.{Side}
use Rattle.claims.proofs.Places.{same_leb}

-- the best price of the grid at which at least v stand is the price of that place
pub best_piece_place : (s : Side) (f : ℕ → ℕ) (v : ℕ) → (over_grid f).best s (λ x. leb v x) ≡ price_at s (piece_place (λ k. f (nth s k)) v)
unfolding over_grid piece_place
best_piece_place s f v = best_place s (λ p. leb v (f p)) last_price

module _ (F : ℕ → ℕ) where
  pub piece_place_le : (v : ℕ) → piece_place F v ≤ last_price
  unfolding piece_place
  piece_place_le v = largest_le (λ k. leb v (F k)) last_price

  pub piece_place_stands : (v : ℕ) → 1 ≤ piece_place F v → v ≤ F (piece_place F v)
  unfolding piece_place
  piece_place_stands v h = leb-true v _ (largest_passes (λ k. leb v (F k)) last_price h)

  -- beyond it fewer stand
  pub past_piece_place : (v k : ℕ) → k ≤ last_price → piece_place F v < k → F k < v
  unfolding piece_place
  past_piece_place v k most far = go (dec_le v (F k))
    where
      go : Dec (v ≤ F k) → F k < v
      go (yes l) =
          let m = largest_ge (λ k. leb v (F k)) last_price k most (le-leb v (F k) l) in
          absurd (omega arith)
      go (no l) = omega (arith, l)

  -- where fewer stand the farther out, at least v stand up to it
  pub up_to_piece_place : ((j k : ℕ) → j ≤ k → F k ≤ F j) → (v k : ℕ) → OnGrid k → leb v (F k) ≡ leb k (piece_place F v)
  up_to_piece_place falls v k on = same_leb v (F k) k (piece_place F v) (λ h. reached h (dec_le k (piece_place F v))) stand
    where
      reached : v ≤ F k → Dec (k ≤ piece_place F v) → k ≤ piece_place F v
      reached h (yes l) = l
      reached h (no l) = absurd (omega (arith, past_piece_place v k on.1 (omega (arith, l))))

      stand : k ≤ piece_place F v → v ≤ F k
      stand l = omega (arith, piece_place_stands v (omega arith), falls k (piece_place F v) l)

  -- how to recognise it
  pub piece_place_is : (v k : ℕ) → k ≤ last_price → (1 ≤ k → v ≤ F k) → ((j : ℕ) → k < j → j ≤ last_price → F j < v)
      → piece_place F v ≡ k
  piece_place_is v k most stands fewer = le_antisymm (not_more (dec_le (piece_place F v) k)) (at_least k most stands)
    where
      not_more : Dec (piece_place F v ≤ k) → piece_place F v ≤ k
      not_more (yes l) = l
      not_more (no l) =
          absurd (omega (arith, l, piece_place_stands v (omega (arith, l)), fewer (piece_place F v) (omega (arith, l)) (piece_place_le v)))

      at_least : (k : ℕ) → k ≤ last_price → (1 ≤ k → v ≤ F k) → k ≤ piece_place F v
      at_least zero most stands = zero-le
      at_least (suc k) most stands = go (dec_le (suc k) (piece_place F v))
        where
          go : Dec (suc k ≤ piece_place F v) → suc k ≤ piece_place F v
          go (yes l) = l
          go (no l) = absurd (omega (arith, stands (omega arith), past_piece_place v (suc k) most (omega (arith, l))))
