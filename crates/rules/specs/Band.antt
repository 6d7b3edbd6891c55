-- Clauses 9.1–9.8 of docs/RULES.md: indicative price, next band and widening, with refusals 9 and 11 of their calls.
use Rattle.std.specs.Prelude.{Bool, not, ◌&&◌, ◌||◌, cond, [], ◌∷◌, ℕ, ◌+◌, ◌-◌, ◌*◌, ◌/◌, max, min, leb, ltb, eqb}
use Rattle.rules.specs.Answers.{Answer, gives, row, downwards}
use Rattle.rules.specs.Grid.{last_price, on_grid, moved_into}

-- [9.1] n / d rounded up; n / d itself is rounded down
abbrev pub rounded_up : ℕ → ℕ → ℕ
rounded_up n d = (n + (d - 1)) / d

-- [9.2] Both bounds are on the grid, D below H.
unfoldable pub band_stands : ℕ → ℕ → Bool
band_stands D H = on_grid D && on_grid H && ltb D H

-- ---- The indicative price

-- [9.3] The price that is used: the closing purchase price where pieces were traded, else the last auction price.
abbrev pub used_price : ℕ → ℕ → ℕ → ℕ
used_price traded closing auction = cond (ltb 0 traded) closing auction

-- [9.3] The closing purchase price as it is, or the last auction price moved into the band. 9 judges the band and the
-- price used.
unfoldable pub indicative_price : ℕ → ℕ → ℕ → ℕ → ℕ → Answer
indicative_price D H traded closing auction =
    downwards (row 9 (not (band_stands D H && on_grid (used_price traded closing auction))) ∷ [])
    (gives (cond (ltb 0 traded) closing (moved_into D H auction) ∷ []))

-- ---- The next band

-- [9.4] The upper bound is I × (100 + q) / 100, rounded down, or I + 1 where that is I.
abbrev pub upper_rounded : ℕ → ℕ → ℕ
upper_rounded q I = I * (100 + q) / 100

unfoldable pub next_upper : ℕ → ℕ → ℕ
next_upper q I = cond (eqb (upper_rounded q I) I) (I + 1) (upper_rounded q I)

-- [9.4] The lower bound is I × (100 − q) / 100, rounded up, or I − 1 where that is I.
abbrev pub lower_rounded : ℕ → ℕ → ℕ
lower_rounded q I = rounded_up (I * (100 - q)) 100

unfoldable pub next_lower : ℕ → ℕ → ℕ
next_lower q I = cond (eqb (lower_rounded q I) I) (I - 1) (lower_rounded q I)

-- [9.5] Shares, code 0, have 20 percent, certificates 25. Only codes 0 and 1 come here (9.6).
unfoldable pub percent_of : ℕ → ℕ
percent_of code = cond (eqb code 0) 20 25

-- [9.6] The next band for percent q. 11 where I is 1, or the upper bound would be off the grid.
unfoldable pub next_band_for : ℕ → ℕ → Answer
next_band_for q I =
    downwards (row 11 (eqb I 1 || ltb last_price (next_upper q I)) ∷ []) (gives (next_lower q I ∷ next_upper q I ∷ []))

-- [9.6] 9 where I is off the grid or the code is unknown.
unfoldable pub next_band : ℕ → ℕ → Answer
next_band code I = downwards (row 9 (not (on_grid I && leb code 1)) ∷ []) (next_band_for (percent_of code) I)

-- ---- Widening after waiting

-- [9.7] A tenth outwards: 11 tenths of an upper bound, rounded down; 9 tenths of a lower one, rounded up.
abbrev pub tenth_up : ℕ → ℕ
tenth_up H = 11 * H / 10

abbrev pub tenth_down : ℕ → ℕ
tenth_down D = rounded_up (9 * D) 10

-- [9.7] Side 0 moves the upper bound a tenth up, and by at least 1; else it stays.
unfoldable pub widened_upper : ℕ → ℕ → ℕ
widened_upper side H = cond (eqb side 0) (max (tenth_up H) (H + 1)) H

-- [9.7] Side 0 leaves the lower bound, and a bound of 1 stays; else it moves a tenth down, and by at least 1. Only sides 0
-- and 1 come here (9.8, 9.11).
unfoldable pub widened_lower : ℕ → ℕ → ℕ
widened_lower side D = cond (eqb side 0 || eqb D 1) D (min (tenth_down D) (D - 1))

-- [9.8] The upper bound would be off the grid.
abbrev pub cannot_widen : ℕ → ℕ → Bool
cannot_widen side H = ltb last_price (widened_upper side H)

-- [9.8] 11 where that is so.
unfoldable pub widened_for : ℕ → ℕ → ℕ → Answer
widened_for D H side =
    downwards (row 11 (cannot_widen side H) ∷ []) (gives (widened_lower side D ∷ widened_upper side H ∷ []))

-- [9.8] 9 where the band does not stand or the side is unknown.
unfoldable pub widened_band : ℕ → ℕ → ℕ → Answer
widened_band D H side = downwards (row 9 (not (band_stands D H && leb side 1)) ∷ []) (widened_for D H side)
