-- The band of two numbers, for the promises of the calls that take its bounds. Serves [9.2].
use Rattle.std.specs.Prelude.{true, false, ◌≡◌, ℕ, Ok, Err}
use Rattle.std.specs.declared.result.Result.{Result}
use Rattle.rules.specs.Band.{band_stands}
use Rattle.rules.specs.declared.Band.{Band}
use Rattle.rules.specs.declared.Refusal.{Refusal}
use Rattle.rules.specs.declared.Refusal.TheVariants.{Argument}

-- The band stands and has these bounds, or it does not, and the arguments are refused.
abbrev pub BoundsOf : ℕ → ℕ → Result Band Refusal → Type 0
BoundsOf D H (Ok b) = (band_stands D H ≡ true) × (b.lower.0 ≡ D) × (b.upper.0 ≡ H)
BoundsOf D H (Err r) = (band_stands D H ≡ false) × (r ≡ Argument)
