-- What the archive program prints, step by step: bytes that do not fit, then what is said of the sheet. A result that opens has the rounds
-- of demand 3, at most n + 1 with a last word behind them, so there is room for its text.
use mathlib.Core.Bool.{true, false, ◌&&◌}
use mathlib.Core.List.{List}
use mathlib.Core.Path.{◌≡◌}
use Prim.Native.Nat.{ℕ, ◌+◌, ◌*◌, ◌/◌, ◌%◌, ◌≤◌, ◌<◌}
use native.Mathlib.Omega.{arith}
use lib.Dec.{leb, eqb}
use lib.ListN.{length}
use borrow.Author.Tests.{eqb-true, leb-true}
use Rattle.claims.proofs.StoredHold.{read_as_said}
use Rattle.claims.specs.Stored.{OpensBeside}
use Rattle.rules.proofs.Accepted.{accepted_sound}
use Rattle.rules.proofs.Grid.{both}
use Rattle.rules.specs.Answers.{downwards}
use Rattle.rules.specs.Listing.{input_fits, sheet_in, refusal_line}
use Rattle.rules.specs.Pages.{most_listed, listing_fits, archived_beside, archived}
use Rattle.rules.specs.Result.{count, rounds_for}
use Rattle.rules.specs.Sheet.{check_sheet}
use Rattle.rules.specs.declared.Sheet.{Sheet}
use Rattle.run.proofs.Accepted.{count-is}
use Rattle.sheet.specs.Reading.{AcceptedAs}

module _ (bytes text : List ℕ) where
  pub bytes_refused : input_fits bytes ≡ false → archived bytes text ≡ refusal_line 12 0
  unfolding archived downwards
  bytes_refused e = rw e

  pub bytes_accepted : input_fits bytes ≡ true → archived bytes text ≡ archived_beside (check_sheet (sheet_in bytes)) (sheet_in bytes) text
  unfolding archived downwards check_sheet
  bytes_accepted e = rw e

-- a text that fits has whole lines, and not too many
module _ (text : List ℕ) (fits : listing_fits text ≡ true) where
  shape : (eqb (length text % 9) 0 && leb (length text) most_listed) ≡ true
  unfolding listing_fits
  shape = (both fits).0

  pub whole_lines : 9 * (length text / 9) ≡ length text
  whole_lines = omega (arith, eqb-true (length text % 9) 0 (both shape).0)

  pub few_lines : length text / 9 ≤ 15005
  few_lines = omega (arith, leb-true (length text) most_listed (both {a = eqb (length text % 9) 0} shape).1)

-- what the text of a result that opens has to have room for
pub record Roomy (n : ℕ) (rs : List ℕ) : Type 0 where
  pub orders : n ≤ 120
  pub rounds : rounds_for n rs ≤ 121
  pub last : rounds_for n rs * (n + 4) < length rs

pub opened_roomy : {ws stored : List ℕ} {s : Sheet} → AcceptedAs ws s → OpensBeside ws stored → Roomy s.heading.count stored
opened_roomy {ws} {stored} a opens =
    let claim = (read_as_said ws stored opens).demand3 in
    let few : count ws ≤ 120 = (accepted_sound ws a.passes).heading.count in
    rw (count-is a) (record { orders = few; rounds = omega (arith, few, claim.most); last = omega (arith, claim.size) })
