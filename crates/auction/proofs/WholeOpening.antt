-- The opening in the lent space. The words that the run leaves there are the rules' words of the sheet's opening; too small a space, or a
-- refused sheet, leaves the space as it was.
use mathlib.Core.List.{List}
use mathlib.Core.Path.{◌≡◌, sym}
use Prim.Native.Nat.{ℕ, ◌≤◌, ◌<◌}
use lib.ListN.{length}
use Rattle.claims.proofs.CallsHold.{opening_given}
use Rattle.rules.proofs.Accepted.{too_few_words}
use Rattle.rules.specs.Answers.{gives, refuses, refused, first_words}
use Rattle.rules.specs.Calls.{opening, answer_by, answer, Writes}
use Rattle.rules.specs.Opening.{opening_space}
use Rattle.rules.specs.Sheet.{check_sheet}
use Rattle.rules.specs.declared.Refusal.{Refusal}
use Rattle.rules.specs.declared.Sheet.{Sheet}
use Rattle.run.proofs.Accepted.{count-is}
use Rattle.run.specs.Starts.{Ran}
use Rattle.sheet.specs.Reading.{AcceptedAs}
use Rattle.auction.proofs.FirstRound.{refused_call}
use Rattle.auction.proofs.Spaces.{refusal_writes, words_write}

module _ {ws : List ℕ} {s : Sheet} (a : AcceptedAs ws s) {before : List ℕ} {needed : ℕ}
    (sized : needed ≡ opening_space s.heading.count) where
  -- too few words: nothing is written
  pub opening_too_small : length before < needed → Writes (opening ws (length before)) before before (refuses 10 0)
  unfolding answer answer_by
  opening_too_small few = refusal_writes (too_few_words ws a.passes _ (rw (sized, count-is a) at few))

  -- enough words: those of the opening stand in front
  pub opening_written : needed ≤ length before → {written : ℕ} {after : List ℕ} → Ran ws before after written
      → Writes (opening ws (length before)) before after (gives (first_words written after))
  opening_written enough ran =
      words_write (opening_given ws a.passes (rw (sized, count-is a) at enough)) (sym ran.count) ran.holds

-- a refused sheet refuses the call, and nothing is written
pub opening_refused : (ws : List ℕ) (refusal : Refusal) → check_sheet ws ≡ refused refusal → {space : List ℕ}
    → Writes (opening ws (length space)) space space (refused refusal)
unfolding answer answer_by
opening_refused ws refusal fault = refusal_writes (sym (refused_call ws refusal fault _ _))
