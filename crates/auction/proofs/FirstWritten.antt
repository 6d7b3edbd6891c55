-- The first round in the lent space. What the round hands back is the rules' first round of the sheet, whose values fit their words; so the
-- words in front of the space are those of the rules.
use mathlib.Core.List.{List, [], ◌++◌, map}
use mathlib.Core.Path.{◌≡◌, sym}
use Prim.Native.Nat.{ℕ, ◌≤◌, ◌<◌}
use native.Mathlib.Omega.{arith}
use lib.ListN.{length, take, drop, length-take}
use Rattle.book.specs.Filed.{filed_in, remaining_in}
use Rattle.claims.proofs.CallsHold.{round_one, fills_first, first_fits, round_given}
use Rattle.claims.proofs.Run.{start_at, round_long}
use Rattle.claims.specs.Fits.{FitsWords}
use Rattle.round.specs.HandedBack.{handed_back, with_places, of_orders}
use Rattle.round.specs.declared.Round as declared
use Rattle.rules.proofs.Accepted.{too_few_words}
use Rattle.rules.specs.Answers.{gives, refuses, refused, first_words}
use Rattle.rules.specs.Calls.{first_round, answer_by, answer, Writes}
use Rattle.rules.specs.Limits.{standing}
use Rattle.rules.specs.Opening.{round_of, round_words, round_space}
use Rattle.rules.specs.Sheet.{check_sheet}
use Rattle.rules.specs.declared.Order.{Order}
use Rattle.rules.specs.declared.Pieces.{Pieces}
use Rattle.rules.specs.declared.Refusal.{Refusal}
use Rattle.rules.specs.declared.Sheet.{Sheet}
use Rattle.run.proofs.Accepted.{count-is}
use Rattle.run.proofs.Running.{running_none, round_is}
use Rattle.run.specs.Starts.{start_of}
use Rattle.sheet.specs.Reading.{AcceptedAs, OfSheet}
use Rattle.auction.proofs.FirstRound.{refused_call}
use Rattle.auction.proofs.Spaces.{refusal_writes, words_write}

-- a part that begins a space has as many words as were asked for
pub part_words : (before : List ℕ) {size : ℕ} → size ≤ length before → length (take size before) ≡ size
part_words before {size} enough = simp length-take (omega arith)

-- ---- An accepted sheet

module _ {ws : List ℕ} {s : Sheet} (a : AcceptedAs ws s) where
  -- what the round hands back is the rules' first round
  pub first_is : {quantities : List Pieces} → quantities ≡ map (λ (o : Order). o.quantity) s.orders → (r : declared.Round)
      → handed_back r ≡ with_places (round_of s.heading s.heading.last.0 (standing s.heading (filed_in s.heading s.orders) (remaining_in s.heading quantities)))
      → of_orders s.heading.count r ≡ round_one ws
  unfolding start_of start_at
  first_is e r given = round_is a (running_none a []) r (rw e at given)

  module _ {before : List ℕ} where
    -- too few words: nothing is written
    pub space_too_small : length before < round_space s.heading.count → Writes (first_round ws (length before)) before before (refuses 10 0)
    unfolding answer answer_by
    space_too_small few = refusal_writes (too_few_words ws a.passes _ (rw (count-is a) at few))

    -- enough words: those of the round stand in front
    pub round_written : {size : ℕ} {after : List ℕ} → size ≡ round_space s.heading.count → size ≤ length before
        → after ≡ round_words (round_one ws) ++ drop size before → Writes (first_round ws (length before)) before after (gives (first_words size after))
    round_written {size} {after} sized enough e =
        let words : length (round_words (round_one ws)) ≡ size =
        omega (arith, round_long (round_one ws), fills_first ws a.passes, count-is a) in
        words_write (round_given ws a.passes (omega (arith, count-is a))) words e

-- what is asked of the round before it is written
pub fits_its_words : {s : Sheet} → OfSheet s → {quantities : List Pieces} → quantities ≡ map (λ (o : Order). o.quantity) s.orders
    → (r : declared.Round)
    → handed_back r ≡ with_places (round_of s.heading s.heading.last.0 (standing s.heading (filed_in s.heading s.orders) (remaining_in s.heading quantities)))
    → FitsWords (of_orders s.heading.count r)
fits_its_words o e r given = rw (first_is o.accepted e r given) (first_fits o.words o.accepted.passes)

-- ---- A refused sheet

-- it refuses the call, and nothing is written
pub round_refused : (ws : List ℕ) (refusal : Refusal) → check_sheet ws ≡ refused refusal → {space : List ℕ}
    → Writes (first_round ws (length space)) space space (refused refusal)
unfolding answer answer_by
round_refused ws refusal fault = refusal_writes (sym (refused_call ws refusal fault _ _))
