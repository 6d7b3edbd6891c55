-- What the program answers. Bytes that fit hold a whole number of words, at most 366, and the space for the result has the words that any
-- accepted sheet asks for: so row 10 never arises, and the answer is that of the sheet's checks alone.
use mathlib.Core.Bool.{true, false}
use mathlib.Core.List.{List}
use mathlib.Core.Path.{◌≡◌}
use Prim.Native.Nat.{ℕ, ◌*◌, ◌/◌, ◌%◌, ◌≤◌}
use native.Mathlib.Omega.{arith}
use lib.Dec.{eqb}
use lib.ListN.{length}
use borrow.Author.Tests.{eqb-true, leb-true}
use Rattle.claims.proofs.CallsHold.{most_asked, opening_checked}
use Rattle.rules.proofs.Grid.{both}
use Rattle.rules.specs.Answers.{Answer, gives, refuses, downwards}
use Rattle.rules.specs.Calls.{opening, answer}
use Rattle.rules.specs.Listing.{most_bytes, input_fits, sheet_in, program_answer}
use Rattle.rules.specs.Opening.{opening_words}
use Rattle.rules.specs.Sheet.{sheet_checks}

-- ---- The bytes

module _ (bytes : List ℕ) where
  pub input_refused : input_fits bytes ≡ false → program_answer bytes ≡ refuses 12 0
  unfolding program_answer downwards
  input_refused e = rw e

  module _ (fits : input_fits bytes ≡ true) where
    pub input_accepted : program_answer bytes ≡ downwards (sheet_checks (sheet_in bytes)) (gives (opening_words (sheet_in bytes)))
    unfolding program_answer downwards
    input_accepted = rw fits

    pub whole_words : 4 * (length bytes / 4) ≡ length bytes
    unfolding input_fits
    whole_words = omega (arith, eqb-true (length bytes % 4) 0 (both fits).0)

    pub few_words : length bytes / 4 ≤ most_bytes / 4
    unfolding input_fits
    few_words = omega (arith, leb-true (length bytes) most_bytes (both {a = eqb (length bytes % 4) 0} fits).1)

-- ---- The space

-- what the call answers for the words read, with a space of just so many words
pub opened_answer : {words sheet : List ℕ} {n : ℕ} {answered : Answer} → words ≡ sheet → n ≡ 15005 → answered ≡ answer (opening words n)
    → answered ≡ downwards (sheet_checks sheet) (gives (opening_words sheet))
opened_answer {sheet = sheet} read long answers = rw (read, long, opening_checked sheet (most_asked sheet)) at answers
