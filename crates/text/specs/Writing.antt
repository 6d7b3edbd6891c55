-- What a writer has room for, and what it puts. Serves [11.3]–[11.10].
use Rattle.std.specs.Prelude.{List, ◌++◌, ◌≡◌, ℕ, ◌+◌, ◌≤◌, length, take, drop}
use Rattle.text.specs.declared.writer.Writer.{Writer}

-- Room for so many bytes behind the text.
abbrev pub HasRoom : ℕ → Writer → Type 0
HasRoom most w = w.count + most ≤ length w.space.now

-- A text of at most so many bytes, put behind the text that was there.
pub record Puts (most : ℕ) (text : List ℕ) (before after : Writer) : Type 0 where
  -- in the same lent space
  pub same : after.space.ghost_name ≡ before.space.ghost_name
  pub long : length after.space.now ≡ length before.space.now
  pub counts : after.count ≡ before.count + length text
  pub small : after.count ≤ before.count + most
  pub room : after.count ≤ length before.space.now
  -- in front of the text and behind it the space keeps its content
  pub holds : after.space.now ≡ take before.count before.space.now ++ (text ++ drop after.count before.space.now)
