-- What the three calls that write promise beyond the rules' answer follows from that answer. The words in front of the space are those of
-- the rules, and they say what the rounds are: so what is claimed of the rules' rounds holds of the words that stand there. With fees the
-- rows of the tariff and of the fee list come on top; where neither arises the answer is that of the opening.
use mathlib.Core.Bool.{true, not}
use mathlib.Core.List.{List, [], ◌∷◌, ◌++◌}
use mathlib.Core.Path.{◌≡◌, sym, ap, ◌∙◌}
use Prim.Native.Nat.{ℕ, ◌≤◌}
use native.Mathlib.Omega.{arith}
use lib.Dec.{ltb}
use lib.ListN.{length, drop}
use borrow.Author.Tests.{le-ltb}
use Rattle.claims.proofs.Bounds.{most_space}
use Rattle.claims.proofs.Demand3Holds.{demand3_holds}
use Rattle.claims.proofs.Opening.{fills_count_lem, number_fits}
use Rattle.claims.proofs.ReadBack.{read_back}
use Rattle.claims.proofs.RoundHolds.{round_holds}
use Rattle.claims.proofs.Run.{start_at}
use Rattle.claims.specs.Calls.{FirstRound, Opened, OpenedWithFees}
use Rattle.claims.specs.Fills.{Largest}
use Rattle.claims.specs.Fits.{FitsWords}
use Rattle.rules.proofs.Accepted.{accepted_sound, enough_words}
use Rattle.rules.proofs.Downwards.{downwards_append, last_row}
use Rattle.rules.specs.Answers.{Answer, gives, row, downwards}
use Rattle.rules.specs.Calls.{first_round, opening, opening_fees, first_standing, answer_by, answer, space_after, Writes, words_given, fees_given}
use Rattle.rules.specs.Fees.{tariff_stands}
use Rattle.rules.specs.Opening.{Round, round_from, first_start, round_words, opening_words, round_space, opening_space}
use Rattle.rules.specs.Result.{count, round_said, auction_in}
use Rattle.rules.specs.Sheet.{heading_of, sheet_checks, check_sheet, AcceptedSheet}
use Rattle.rules.specs.declared.Tariff.{Tariff}

-- the first round of a sheet, by the rules
abbrev pub round_one : List ℕ → Round
round_one ws = round_from ws (first_start ws)

-- ---- An accepted sheet

module _ (ws : List ℕ) (accepted : AcceptedSheet ws) where
  pub fills_first : length (round_one ws).fills ≡ count ws
  unfolding start_at
  fills_first = fills_count_lem ws 0

  pub first_fits : FitsWords (round_one ws)
  unfolding start_at
  first_fits = number_fits ws (accepted_sound ws accepted) 0

  -- the words in front of a space say what the first round is
  first_said : (rest : List ℕ) → round_said ws (round_words (round_one ws) ++ rest) 0 ≡ round_one ws
  first_said rest = read_back ws [] rest 0 (round_one ws) (omega arith) fills_first first_fits

  first_largest : Largest (heading_of ws) (auction_in (round_one ws)) (first_standing ws) (round_one ws).fills
  unfolding first_standing
  first_largest = (round_holds ws (accepted_sound ws accepted) (first_start ws)).filled

  -- what the two calls answer where the space has the words
  pub round_given : {size : ℕ} → round_space (count ws) ≤ size → answer (first_round ws size) ≡ gives (round_words (round_one ws))
  unfolding answer answer_by
  round_given enough = enough_words ws accepted (round_words (round_one ws)) enough

  pub opening_given : {size : ℕ} → opening_space (count ws) ≤ size → answer (opening ws size) ≡ gives (opening_words ws)
  unfolding answer answer_by opening_words
  opening_given enough = enough_words ws accepted (opening_words ws) enough

-- where the space has the words that an accepted sheet asks for, row 10 does not arise: the sheet's own rows are left, of every sheet
pub opening_checked : (ws : List ℕ) {size : ℕ} → (AcceptedSheet ws → opening_space (count ws) ≤ size)
    → answer (opening ws size) ≡ downwards (sheet_checks ws) (gives (opening_words ws))
unfolding answer answer_by opening_words check_sheet
opening_checked ws {size} enough =
    last_row (sheet_checks ws) _ _ (λ clear. le-ltb size (opening_space (count ws)) (enough (clear.hands_on (gives []))))

-- 15,005 words are always enough
pub most_asked : (ws : List ℕ) → AcceptedSheet ws → opening_space (count ws) ≤ 15005
most_asked ws accepted = most_space (count ws) (accepted_sound ws accepted).heading.count

-- where the tariff stands and each order has a place, the opening with fees answers what the opening answers, of every sheet
pub as_opening : (ws : List ℕ) (t : Tariff) (space places : ℕ) → tariff_stands t ≡ true → count ws ≤ places
    → answer (opening_fees ws t space places) ≡ answer (opening ws space)
unfolding answer answer_by downwards
as_opening ws t space places stands enough =
    let few = row 10 (ltb space (opening_space (count ws))) in
    downwards_append (sheet_checks ws) (row 16 (not (tariff_stands t)) ∷ few ∷ row 10 (ltb places (count ws)) ∷ []) _
    ∙ rw (stands, le-ltb places (count ws) enough) (sym (downwards_append (sheet_checks ws) (few ∷ []) _))

-- ---- The calls

module _ {ws before after : List ℕ} {answered : Answer} where
  pub first_round_holds : Writes (first_round ws (length before)) before after answered → FirstRound ws before after answered
  first_round_holds writes = record {
    writes = writes;
    filled = λ accepted enough.
        let rest : List ℕ = drop (length (round_words (round_one ws))) before in
        let stands : after ≡ round_words (round_one ws) ++ rest =
        writes.holds ∙ ap (λ (a : Answer). space_after a before) (round_given ws accepted enough) in
        rw (stands, first_said ws accepted rest) (first_largest ws accepted);
  }

  pub opening_holds : Writes (opening ws (length before)) before after answered → Opened ws before after answered
  opening_holds writes = record {
    writes = writes;
    demand3 = λ accepted enough.
        rw (ap words_given (writes.answers ∙ opening_given ws accepted enough)) (demand3_holds ws accepted);
  }

  pub opening_fees_holds : {t : Tariff} {list listAfter : List ℕ} → Writes (opening_fees ws t (length before) (length list)) before after answered
      → listAfter ≡ space_after (fees_given t ws (answer (opening_fees ws t (length before) (length list)))) list
      → OpenedWithFees ws t before after list listAfter answered
  opening_fees_holds {t} {list} writes charges = record {
    writes = writes;
    charges = charges;
    opened = λ stands places.
        let same = as_opening ws t (length before) (length list) stands places in
        opening_holds (record { answers = writes.answers ∙ same; holds = rw same at writes.holds });
  }
