-- Clause 13.10 of docs/RULES.md: what may be expected of every clock that the waiting clock answers.
use Rattle.std.specs.Prelude.{true, List, [], ◌∷◌, ◌≡◌, ℕ, ◌≤◌}
use Rattle.rules.specs.Answers.{gives}
use Rattle.rules.specs.Band.{band_stands}
use Rattle.rules.specs.Calls.{waiting, answer}

-- [13.10] Whatever six numbers are answered, the two bounds are a band, and at most 143 openings are due: a 144th would
-- need a second 86,400.
abbrev pub WaitingExpected : ℕ → ℕ → List ℕ → Type 0
WaitingExpected D H ws =
    (phase start side lower upper due : ℕ)
    → answer (waiting D H ws) ≡ gives (phase ∷ start ∷ side ∷ lower ∷ upper ∷ due ∷ [])
    → (band_stands lower upper ≡ true) × (due ≤ 143)
