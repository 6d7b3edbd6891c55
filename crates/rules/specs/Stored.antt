-- Clauses 10.6a–10.6c of docs/RULES.md: a stored result beside its sheet, whether it opens, and what a round of it says.
use Rattle.std.specs.Prelude.{not, cond, List, [], ◌∷◌, ◌++◌, ℕ, ◌+◌, ltb, eqb, Some, None, Ok, Err}
use Rattle.std.specs.declared.option.Option.{Option}
use Rattle.std.specs.declared.result.Result.{Result}
use Rattle.rules.specs.Answers.{Answer, gives, refuses, row, downwards, refused}
use Rattle.rules.specs.Calls.{Call, opening, answer}
use Rattle.rules.specs.Opening.{Round, opening_space}
use Rattle.rules.specs.Result.{count, rounds_for, word_place_for, round_said_for}
use Rattle.rules.specs.declared.Refusal.{Refusal}
use Rattle.rules.specs.declared.StoredRound.{StoredRound}
use Rattle.rules.specs.declared.Summary.{Summary}
use Rattle.rules.specs.declared.Unopened.{Unopened}
use Rattle.rules.specs.declared.Unopened.TheVariants.{Different, Refused}

-- ---- Two lists of words

-- [10.6a] A difference, so many words further on.
abbrev pub further : ℕ → Option ℕ → Option ℕ
further words None = None
further words (Some place) = Some (words + place)

-- [10.6a] Where two lists first differ, counted from 0, or none; where one is the beginning of the other, at the length of the
-- shorter.
unfoldable pub first_difference : List ℕ → List ℕ → Option ℕ
first_difference [] [] = None
first_difference [] (y ∷ ys) = Some 0
first_difference (x ∷ xs) [] = Some 0
first_difference (x ∷ xs) (y ∷ ys) = cond (eqb x y) (further 1 (first_difference xs ys)) (Some 0)

-- ---- A stored result beside its sheet

-- [10.6b] What a call on a stored result answers: as any call does, or, which is no refusal, the place of the first difference.
pub data StoredAnswer : Type 0 where
  answers : Answer → StoredAnswer
  differs : ℕ → StoredAnswer

-- [10.6b] Where there is no difference the answer is a.
abbrev pub unless_different : Option ℕ → Answer → StoredAnswer
unless_different None a = answers a
unless_different (Some place) a = differs place

-- [10.6b] What is answered beside what the opening answers: its refusal comes first, then a difference from its words, then a.
abbrev pub beside : Answer → List ℕ → Answer → StoredAnswer
beside (refuses n k) stored a = answers (refuses n k)
beside (gives words) stored a = unless_different (first_difference stored words) a

-- [10.6b] The opening of the sheet ws, with just the space that it needs.
abbrev pub opening_of : List ℕ → Call
opening_of ws = opening ws (opening_space (count ws))

-- [10.6b] The two calls on a sheet and a stored result: whether it opens; and, by its number, a round of it.
pub data StoredCall : Type 0 where
  open_stored : List ℕ → List ℕ → StoredCall
  stored_round : List ℕ → List ℕ → ℕ → StoredCall

-- [10.6b] Why a result does not open, of the engine's answer.
abbrev pub unopened : Unopened → StoredAnswer
unopened (Different place) = differs place
unopened (Refused r) = answers (refused r)

-- [10.6b] Whether a result opens, of the engine's answer.
abbrev pub opens_answer : Result (Unit {0}) Unopened → StoredAnswer
opens_answer (Ok tt) = answers (gives [])
opens_answer (Err u) = unopened u

-- ---- A round

-- [10.6c] What the words of a round say before its fills.
abbrev pub summary_of : Round → List ℕ
summary_of x = x.situation ∷ x.price ∷ x.purchase ∷ x.total ∷ []

-- [10.6c] The stretch of the fill words of round r: the place of the first, and how many there are.
abbrev pub stretch_of : ℕ → ℕ → List ℕ
stretch_of n r = word_place_for n r 4 ∷ n ∷ []

-- [10.6c] The first round has the number 0; one that is not there is refused with 9.
abbrev pub on_round : ℕ → List ℕ → ℕ → List ℕ → Answer
on_round n rs r vs = downwards (row 9 (not (ltb r (rounds_for n rs))) ∷ []) (gives vs)

-- [10.6c] What the page of round r says, before its fills, in the words rs of a result of n orders.
unfoldable pub page : ℕ → List ℕ → ℕ → Answer
page n rs r = on_round n rs r (summary_of (round_said_for n rs r))

-- ---- The answers

-- [10.6c] What the two calls answer, for a given way of answering the opening. A result that opens gives nothing more, a round of it its
-- page and the stretch of its fill words.
unfoldable pub stored_by : (Call → Answer) → StoredCall → StoredAnswer
stored_by by (open_stored ws stored) = beside (by (opening_of ws)) stored (gives [])
stored_by by (stored_round ws stored r) =
    beside (by (opening_of ws)) stored
    (on_round (count ws) stored r (summary_of (round_said_for (count ws) stored r) ++ stretch_of (count ws) r))

-- [10.6c] What the rules answer.
unfoldable pub stored_answer : StoredCall → StoredAnswer
stored_answer = stored_by answer

-- [10.6c] Situation, auction price, purchase price and total.
abbrev pub summary_numbers : Summary → List ℕ
summary_numbers s = s.situation ∷ s.price.0 ∷ s.purchase.0 ∷ s.total.0 ∷ []

-- [10.6c] A page, of the engine's answer.
abbrev pub page_answer : Result Summary Refusal → Answer
page_answer (Ok s) = gives (summary_numbers s)
page_answer (Err r) = refused r

-- [10.6c] A round, likewise: these four, then the place of its first fill word and the number of its fill words.
abbrev pub round_answer : Result StoredRound Unopened → StoredAnswer
round_answer (Ok r) = answers (gives (summary_numbers r.summary ++ (r.fills ∷ r.count ∷ [])))
round_answer (Err u) = unopened u
