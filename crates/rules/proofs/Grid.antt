-- What the tests of the grid and of a band tell, and where a price that is moved into the band lies.
use mathlib.Core.Bool.{Bool, true, ◌&&◌, and-eq-true_iff}
use mathlib.Core.Path.{◌≡◌}
use Prim.Native.Nat.{ℕ, ◌≤◌}
use native.Mathlib.Nat.{le_refl}
use lib.Dec.{leb, ltb}
use borrow.Author.Tests.{leb-true, le-leb, ltb-false}
use Rattle.rules.proofs.Tests.{by_test}
use Rattle.rules.specs.Band.{band_stands}
use Rattle.rules.specs.Grid.{last_price, on_grid, moved_into}

abbrev pub OnGrid : ℕ → Type 0
OnGrid p = (1 ≤ p) × (p ≤ last_price)

-- both of two tests that hold together hold
pub both : {a b : Bool} → (a && b) ≡ true → (a ≡ true) × (b ≡ true)
both {a} {b} e = (and-eq-true_iff a b).0 e

pub on_grid_lem : (p : ℕ) → on_grid p ≡ true → OnGrid p
unfolding on_grid
on_grid_lem p e = let t = both {a = leb 1 p} e in (leb-true 1 p t.0, leb-true p last_price t.1)

pub is_on_grid : (p : ℕ) → OnGrid p → on_grid p ≡ true
unfolding on_grid
is_on_grid p on = rw (le-leb 1 p on.0, le-leb p last_price on.1)

-- the bounds of a band that stands are on the grid
pub band_on_grid : (D H : ℕ) → band_stands D H ≡ true → OnGrid D × OnGrid H
unfolding band_stands
band_on_grid D H e =
    let grid = both {a = on_grid D} (both {a = on_grid D && on_grid H} e).0 in
    (on_grid_lem D grid.0, on_grid_lem H grid.1)

-- a price moved into the band lies there
pub moved_within : (D H p : ℕ) → D ≤ H → (D ≤ moved_into D H p) × (moved_into D H p ≤ H)
unfolding moved_into
moved_within D H p band =
    by_test (λ q. (D ≤ q) × (q ≤ H)) (ltb p D) (λ e. (le_refl D, band))
    (λ e. by_test (λ q. (D ≤ q) × (q ≤ H)) (ltb H p) (λ f. (band, le_refl H)) (λ f. (ltb-false p D e, ltb-false H p f)))
