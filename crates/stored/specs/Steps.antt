-- What the functions inside this crate hand to each other. Serves [10.6c].
use Rattle.std.specs.Prelude.{List, ◌≡◌, ℕ, ◌+◌, ◌*◌, ◌≤◌, ◌<◌, length, Some, None}
use Rattle.std.specs.declared.option.Option.{Option}
use Rattle.rules.specs.Result.{rounds_for}
use Rattle.rules.specs.Words.{word_at}
use Rattle.rules.specs.declared.Summary.{Summary}

-- A round that is there begins at its place, and all its words lie in the list.
pub record There (n : ℕ) (rs : List ℕ) (r place : ℕ) : Type 0 where
  pub is : r < rounds_for n rs
  pub begins : place ≡ r * (n + 4)
  pub within : place + (n + 4) ≤ length rs

-- Where round r begins among the words rs of a result of n orders.
abbrev pub PlaceIs : ℕ → List ℕ → ℕ → Option ℕ → Type 0
PlaceIs n rs r (Some place) = There n rs r place
PlaceIs n rs r None = rounds_for n rs ≤ r

-- Four words from a place on, as the engine hands them out.
abbrev pub summary_from : List ℕ → ℕ → Summary
summary_from rs place = record {
  situation = (word_at rs place).value;
  price = record { 0 = (word_at rs (place + 1)).value };
  purchase = record { 0 = (word_at rs (place + 2)).value };
  total = record { 0 = (word_at rs (place + 3)).value };
}
