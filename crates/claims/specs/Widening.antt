-- Clause 13.10a of docs/RULES.md: what may be expected of a widened band, whether the call widens it or the waiting clock.
use Rattle.std.specs.Prelude.{true, ◌&&◌, [], ◌∷◌, ◌⊎◌, ◌≡◌, ℕ, ◌≤◌, ◌<◌, ltb, eqb}
use Rattle.rules.specs.Answers.{gives}
use Rattle.rules.specs.Band.{band_stands, tenth_up, tenth_down, cannot_widen}
use Rattle.rules.specs.Calls.{widen, answer}
use Rattle.rules.specs.Grid.{last_price}
use Rattle.rules.specs.Waiting.{time_is_up, side_in, after_second}
use Rattle.rules.specs.declared.Clock.{Clock}

-- [13.10a] A band with the bounds D and H was widened on a side, and has the bounds lower and upper now.
pub record MovedOut (side D H lower upper : ℕ) : Type 0 where
  -- on side 0 the upper bound is above the one before, and the lower one stayed
  pub upper_rises : side ≡ 0 → (H < upper) × (lower ≡ D)
  -- on side 1 the lower bound is below the one before, unless that was 1, which stayed; the upper one stayed
  pub lower_falls : side ≡ 1 → ((lower < D) ⊎ ((D ≡ 1) × (lower ≡ 1))) × (upper ≡ H)
  -- a bound of 10 or more moved by the tenth alone, as if no least move were asked
  pub upper_by_tenth : side ≡ 0 → 10 ≤ H → upper ≡ tenth_up H
  pub lower_by_tenth : side ≡ 1 → 10 ≤ D → lower ≡ tenth_down D

-- [13.10a] So it is with whatever two bounds the widening call answers. And no least move is refused with 11: that arises on side 0
-- just where the tenth would leave the grid, and on side 1 never.
pub record WideningExpected (D H side : ℕ) : Type 0 where
  pub moves : (lower upper : ℕ) → answer (widen D H side) ≡ gives (lower ∷ upper ∷ []) → MovedOut side D H lower upper
  pub refused : H ≤ last_price → cannot_widen side H ≡ (eqb side 0 && ltb last_price (tenth_up H))

-- [13.10a] And so it is with the band of the clock at every second at which the time of a phase is up.
abbrev pub WaitingWidens : Clock → ℕ → Type 0
WaitingWidens c second =
    band_stands c.lower.0 c.upper.0 ≡ true → time_is_up c.phase second ≡ true
    → MovedOut (side_in c.phase) c.lower.0 c.upper.0 (after_second second c).lower.0 (after_second second c).upper.0
