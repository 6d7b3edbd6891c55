-- What a round must be to have room in its result words, and an answer in its space; no claim. Serves [7.8] and [7.11].
use Rattle.std.specs.Prelude.{ℕ, ◌≤◌, ◌<◌, length, Ok, Err}
use Rattle.std.specs.declared.result.Result.{Result}
use Rattle.rules.specs.Fills.{fill_of}
use Rattle.rules.specs.Opening.{Round}
use Rattle.rules.specs.declared.Refusal.{Refusal}

-- Each value of a round fits the low 28 bits of a word.
pub record FitsWords (r : Round) : Type 0 where
  pub situation : r.situation < 0x1000_0000
  pub price : r.price < 0x1000_0000
  pub purchase : r.purchase < 0x1000_0000
  pub total : r.total < 0x1000_0000
  pub fills : (k : ℕ) → k < length r.fills → fill_of r.fills k < 0x1000_0000

-- No more words are written than the space has.
abbrev pub Within : Result ℕ Refusal → ℕ → Type 0
Within (Ok count) words = count ≤ words
Within (Err r) words = Unit {0}
