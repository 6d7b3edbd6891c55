-- What may be expected of a widened band. Below 10 a tenth rounds to nothing and the least move decides; from 10 on the tenth is at
-- least as large. So the least move never takes an upper bound off the grid. The call and the clock have their bounds from the same
-- two definitions, and one law about these serves both.
use mathlib.Core.Bool.{Bool, true, false, not, ◌&&◌}
use mathlib.Core.List.{[], ◌∷◌}
use mathlib.Core.Logic.{◌⊎◌, inl, inr}
use mathlib.Core.Path.{◌≡◌, refl, sym, ap, ◌∙◌}
use Prim.Native.Nat.{ℕ, ◌-◌, ◌≤◌, ◌<◌, min}
use native.Mathlib.Nat.{eq-or-lt_of_le}
use native.Mathlib.Omega.{arith}
use lib.Dec.{leb, ltb, eqb}
use borrow.Author.Tests.{leb-true, leb-false, le-ltb, eqb-true, ne_eqb, not-false}
use Rattle.claims.specs.Widening.{MovedOut, WideningExpected, WaitingWidens}
use Rattle.rules.proofs.Downwards.{given_clear, clear_row}
use Rattle.rules.proofs.Grid.{both, band_on_grid}
use Rattle.rules.specs.Answers.{gives, row}
use Rattle.rules.specs.Band.{band_stands, tenth_up, tenth_down, widened_upper, widened_lower, cannot_widen, widened_for, widened_band}
use Rattle.rules.specs.Calls.{answer, answer_by}
use Rattle.rules.specs.Grid.{last_price}
use Rattle.rules.specs.Waiting.{side_in, after_time, after_second}
use Rattle.rules.specs.declared.Clock.{Clock}

-- ---- The upper bound

upper_rises_lem : (H : ℕ) → H < widened_upper 0 H
unfolding widened_upper
upper_rises_lem H = omega arith

upper_by_tenth_lem : (H : ℕ) → 10 ≤ H → widened_upper 0 H ≡ tenth_up H
unfolding widened_upper
upper_by_tenth_lem H ten = omega arith

-- the least move alone stays on the grid
upper_small : (H : ℕ) → H < 10 → widened_upper 0 H ≤ last_price
unfolding widened_upper
upper_small H few = omega arith

-- every side but 0 leaves it
upper_stays : (side H : ℕ) → eqb side 0 ≡ false → widened_upper side H ≡ H
unfolding widened_upper
upper_stays side H other = rw other

refused_by_tenth : (H : ℕ) → cannot_widen 0 H ≡ ltb last_price (tenth_up H)
refused_by_tenth H = go (leb 10 H) refl
  where
    go : (t : Bool) → leb 10 H ≡ t → cannot_widen 0 H ≡ ltb last_price (tenth_up H)
    go true e = ap (ltb last_price) (upper_by_tenth_lem H (leb-true 10 H e))
    go false e =
        let few = leb-false 10 H e in
        le-ltb last_price (widened_upper 0 H) (upper_small H few) ∙ sym (le-ltb last_price (tenth_up H) (omega (arith, few)))

-- ---- The lower bound

lower_stays : (D : ℕ) → widened_lower 0 D ≡ D
unfolding widened_lower
lower_stays D = refl

one_stays : widened_lower 1 1 ≡ 1
unfolding widened_lower
one_stays = refl

-- any other takes the larger of the two moves
lower_moved : (D : ℕ) → 1 < D → widened_lower 1 D ≡ min (tenth_down D) (D - 1)
unfolding widened_lower
lower_moved D more = rw (ne_eqb D 1 (omega arith))

lower_falls_lem : (D : ℕ) → (1 ≡ D) ⊎ (1 < D) → (widened_lower 1 D < D) ⊎ ((D ≡ 1) × (widened_lower 1 D ≡ 1))
lower_falls_lem D (inl one) = inr (sym one, rw (← one) one_stays)
lower_falls_lem D (inr more) = inl (rw (lower_moved D more) (omega (arith, more)))

lower_by_tenth_lem : (D : ℕ) → 10 ≤ D → widened_lower 1 D ≡ tenth_down D
lower_by_tenth_lem D ten = lower_moved D (omega (arith, ten)) ∙ omega (arith, ten)

-- ---- The claims

-- what the two definitions make of a band
moved_out : (side D H : ℕ) → 1 ≤ D → MovedOut side D H (widened_lower side D) (widened_upper side H)
moved_out side D H on = record {
  upper_rises = λ e. rw e (upper_rises_lem H, lower_stays D);
  lower_falls = λ e. rw e (lower_falls_lem D (eq-or-lt_of_le on), upper_stays 1 H refl);
  upper_by_tenth = λ e ten. rw e (upper_by_tenth_lem H ten);
  lower_by_tenth = λ e ten. rw e (lower_by_tenth_lem D ten);
}

cannot_by_tenth : (side H : ℕ) → H ≤ last_price → cannot_widen side H ≡ (eqb side 0 && ltb last_price (tenth_up H))
cannot_by_tenth side H on = go (eqb side 0) refl
  where
    go : (t : Bool) → eqb side 0 ≡ t → cannot_widen side H ≡ (eqb side 0 && ltb last_price (tenth_up H))
    go true e = rw (eqb-true side 0 e) (refused_by_tenth H)
    go false e = rw (upper_stays side H e, e) (le-ltb last_price H on)

pub widening_expected : (D H side : ℕ) → WideningExpected D H side
unfolding answer answer_by widened_band widened_for
widening_expected D H side = record {
  moves = λ lower upper e.
      let bounds = gives (widened_lower side D ∷ widened_upper side H ∷ []) in
      let known = given_clear (row 9 (not (band_stands D H && leb side 1)) ∷ []) (widened_for D H side) e in
      let widens : widened_for D H side ≡ gives (lower ∷ upper ∷ []) = sym (known.hands_on (widened_for D H side)) ∙ e in
      let same : bounds ≡ gives (lower ∷ upper ∷ []) = sym ((given_clear (row 11 (cannot_widen side H) ∷ []) bounds widens).hands_on bounds) ∙ widens in
      let l : widened_lower side D ≡ lower = cc in
      let u : widened_upper side H ≡ upper = cc in
      let stands = (both {a = band_stands D H} (not-false (band_stands D H && leb side 1) (clear_row _ _ known))).0 in
      rw (← l, ← u) (moved_out side D H (band_on_grid D H stands).0.0);
  refused = cannot_by_tenth side H;
}

pub waiting_widens : (c : Clock) (second : ℕ) → WaitingWidens c second
unfolding after_second after_time
waiting_widens c second stands up =
    rw up (moved_out (side_in c.phase) c.lower.0 c.upper.0 (band_on_grid c.lower.0 c.upper.0 stands).0.0)
