-- A stored result opens only if it differs nowhere from what the opening gives, and then it is what the opening gives. So all that is
-- claimed of the words of an opening holds of it, demand 3 among it, and what is read of a round is what demand 3 reads.
use mathlib.Core.List.{List, [], ◌∷◌, ◌++◌}
use mathlib.Core.Path.{◌≡◌, refl, sym, ap, ◌∙◌}
use Prim.Native.Nat.{ℕ, ◌+◌, ◌*◌, ◌≤◌}
use native.Mathlib.Nat.{le_refl, add_assoc}
use native.Mathlib.Omega.{arith}
use lib.Dec.{ltb}
use lib.ListN.{length}
use Rattle.claims.proofs.CallsHold.{opening_given}
use Rattle.claims.proofs.Demand3Holds.{demand3_holds}
use Rattle.claims.specs.Stored.{OpensBeside, OpensExactly, ReadAsSaid}
use Rattle.rules.proofs.Downwards.{Clear, given_clear, clear_left}
use Rattle.rules.proofs.Lists.{get_d_listed}
use Rattle.rules.proofs.Stored.{same_lists, no_difference, difference_within, round_there, round_beyond}
use Rattle.rules.specs.Answers.{Answer, gives, refuses, row}
use Rattle.rules.specs.Calls.{opening, answer_by, answer, words_given}
use Rattle.rules.specs.Opening.{opening_words, opening_space}
use Rattle.rules.specs.Result.{count, round_said_for, round_said}
use Rattle.rules.specs.Sheet.{sheet_checks, check_sheet, AcceptedSheet}
use Rattle.rules.specs.Stored.{StoredAnswer, first_difference, answers, differs, unless_different, beside, opening_of, summary_of, stretch_of, on_round, page, open_stored, stored_round, stored_by, stored_answer}
use Rattle.std.specs.declared.option.Option.{Option}
use Rattle.std.specs.Prelude.{Some, None}

-- ---- Beside an answer

same_found : (d : Option ℕ) → unless_different d (gives []) ≡ answers (gives []) → d ≡ None
same_found None e = refl
same_found (Some place) e = cc

-- only what the opening gives opens beside its answer
given_beside : (a : Answer) (stored : List ℕ) → beside a stored (gives []) ≡ answers (gives []) → a ≡ gives stored
given_beside (gives words) stored e = ap gives (sym (same_lists stored words (same_found (first_difference stored words) e)))
given_beside (refuses n k) stored e = cc

-- beside what the opening gives all is answered
beside_given : (stored : List ℕ) (a : Answer) → beside (gives stored) stored a ≡ answers a
beside_given stored a = rw (no_difference stored)

-- where opening is answered x: a, if the result opens; a refusal or a difference is the answer of both calls
abbrev pub where_opened : StoredAnswer → Answer → StoredAnswer
where_opened (answers (gives vs)) a = answers a
where_opened (answers (refuses n k)) a = answers (refuses n k)
where_opened (differs place) a = differs place

unless_where : (d : Option ℕ) (a : Answer) → where_opened (unless_different d (gives [])) a ≡ unless_different d a
unless_where None a = refl
unless_where (Some place) a = refl

beside_where : (o : Answer) (stored : List ℕ) (a : Answer) → where_opened (beside o stored (gives [])) a ≡ beside o stored a
beside_where (gives words) stored a = unless_where (first_difference stored words) a
beside_where (refuses n k) stored a = refl

-- a difference is at most at the end of the stored words
different_found : (d : Option ℕ) {p : ℕ} → unless_different d (gives []) ≡ differs p → d ≡ Some p
different_found None e = cc
different_found (Some place) e = cc

different_beside : (a : Answer) (stored : List ℕ) {p : ℕ} → beside a stored (gives []) ≡ differs p → p ≤ length stored
different_beside (gives words) stored e = difference_within stored words (different_found (first_difference stored words) e)
different_beside (refuses n k) stored e = let z : ◌≡◌ {A = ℕ} 0 1 = cc in absurd (omega arith)

-- ---- A sheet and a stored result

module _ (ws stored : List ℕ) where
  -- where an opening gives the stored words the sheet is accepted, and they are the words of its opening
  module _ (space : ℕ) (given : answer (opening ws space) ≡ gives stored) where
    clear : Clear (sheet_checks ws ++ (row 10 (ltb space (opening_space (count ws))) ∷ []))
    unfolding answer answer_by
    clear = given_clear _ _ given

    given_accepted : AcceptedSheet ws
    unfolding check_sheet
    given_accepted = (clear_left (sheet_checks ws) _ clear).hands_on (gives [])

    given_words : stored ≡ opening_words ws
    unfolding answer answer_by opening_words
    given_words = ap words_given (sym given ∙ clear.hands_on _)

    given_again : {size : ℕ} → opening_space (count ws) ≤ size → answer (opening ws size) ≡ gives stored
    given_again enough = opening_given ws given_accepted enough ∙ ap gives (sym given_words)

  -- what the opening answers where the stored words open
  given_opens : OpensBeside ws stored → answer (opening_of ws) ≡ gives stored
  unfolding stored_answer stored_by
  given_opens opens = given_beside (answer (opening_of ws)) stored opens

  pub opens_exactly : OpensExactly ws stored
  unfolding stored_answer stored_by
  opens_exactly = record {
    written = λ opens space enough. given_again _ (given_opens opens) enough;
    opened = λ space given. rw (given_again space given (le_refl _)) (beside_given stored (gives []));
  }

  pub different_within : {p : ℕ} → stored_answer (open_stored ws stored) ≡ differs p → p ≤ length stored
  unfolding stored_answer stored_by
  different_within e = different_beside (answer (opening_of ws)) stored e

  -- what a round is answered, by what opening is
  pub round_where : (r : ℕ) {x : StoredAnswer} → x ≡ stored_answer (open_stored ws stored)
      → where_opened x (on_round (count ws) stored r (summary_of (round_said_for (count ws) stored r) ++ stretch_of (count ws) r))
      ≡ stored_answer (stored_round ws stored r)
  unfolding stored_answer stored_by
  round_where r told = rw told (beside_where (answer (opening_of ws)) stored _)

  module _ (opens : OpensBeside ws stored) where
    pub read_as_said : ReadAsSaid ws stored
    unfolding page round_said
    read_as_said = record {
      demand3 = rw (given_words _ (given_opens opens)) (demand3_holds ws (given_accepted _ (given_opens opens)));
      pages = λ r there. round_there (count ws) stored r _ there;
      rounds = λ r there. sym (round_where r (sym opens)) ∙ ap answers (round_there (count ws) stored r _ there);
      fills = λ r k own. rw (add_assoc (r * (count ws + 4)) 4 k) (sym (get_d_listed _ (count ws) k 0 own));
      beyond = λ r past. sym (round_where r (sym opens)) ∙ ap answers (round_beyond (count ws) stored r _ past);
    }
