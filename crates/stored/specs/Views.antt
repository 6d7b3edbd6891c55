-- Clauses 10.6d and 13.12 of docs/RULES.md: a view over a stored result, and what it gives round by round.
use Rattle.std.specs.Prelude.{cond, List, [], map, ◌≡◌, ℕ, ◌+◌, ◌*◌, ltb, take, drop, Ok, Err, IfOk}
use Rattle.std.specs.Borrow.{Bor}
use Rattle.std.specs.declared.result.Result.{Result}
use Rattle.rules.specs.Answers.{Answer, gives, refuses, refused}
use Rattle.rules.specs.Result.{count, rounds_for, word_place_for, word_place, round_said}
use Rattle.rules.specs.Stored.{StoredAnswer, answers, differs, open_stored, stored_answer, opens_answer, unopened, summary_of, summary_numbers, page}
use Rattle.rules.specs.Words.{word_of}
use Rattle.rules.specs.declared.Refusal.{Refusal}
use Rattle.rules.specs.declared.Unopened.{Unopened}
use Rattle.stored.specs.declared.Page.{Page}
use Rattle.stored.specs.declared.View.{View}

-- ---- A part of a lent list

-- [10.6d] So many words of the list from a place on, in the memory in which they lie in the list: a word has 4 bytes.
pub record PartOf (whole part : Bor (List ℕ)) (from words : ℕ) : Type 0 where
  pub same : part.now ≡ take words (drop from whole.now)
  pub block : part.ref_ptr.0 ≡ whole.ref_ptr.0
  pub offset : part.ref_ptr.1 ≡ whole.ref_ptr.1 + from * 4

-- [10.6d] The fill words of round r among the words rs of a result of n orders: where they begin, and how many they are. Past
-- the last round there are none.
unfoldable pub fills_from : ℕ → List ℕ → ℕ → ℕ
fills_from n rs r = cond (ltb r (rounds_for n rs)) (word_place_for n r 4) 0

unfoldable pub fills_count : ℕ → List ℕ → ℕ → ℕ
fills_count n rs r = cond (ltb r (rounds_for n rs)) n 0

-- ---- The view

-- [10.6d] The words that a view of a result holds: the very list that was passed.
abbrev pub HoldsWords : View → Bor (List ℕ) → Type 0
HoldsWords v stored = v.words ≡ stored

-- [10.6d] What is answered where a view is had, or is not.
abbrev pub view_answer : Result View Unopened → StoredAnswer
view_answer (Ok v) = answers (gives [])
view_answer (Err u) = unopened u

-- [10.6d] What opening a stored result beside the sheet ws gives: the answer of the rules, and where it opens a view of it with the
-- sheet's number of orders.
pub record OpensAs (ws : List ℕ) (stored : Bor (List ℕ)) (o : Result View Unopened) : Type 0 where
  pub answers : view_answer o ≡ stored_answer (open_stored ws stored.now)
  pub holds : IfOk o (λ v. HoldsWords v stored)
  pub orders : IfOk o (λ v. v.n ≡ count ws)

-- [10.6d] The words of the view that any result has, by what is answered of it: where it opens the very list that was passed, else none.
abbrev pub WordsBy : StoredAnswer → Bor (List ℕ) → Bor (List ℕ) → Type 0
WordsBy (answers (gives xs)) stored words = words ≡ stored
WordsBy (answers (refuses n k)) stored words = words.now ≡ []
WordsBy (differs place) stored words = words.now ≡ []

-- [10.6d] What opening any stored result beside the sheet ws gives: the answer of the rules, and a view with the sheet's number of orders.
pub record ViewsAs (ws : List ℕ) (stored : Bor (List ℕ)) (o : Result (Unit {0}) Unopened × View) : Type 0 where
  pub answers : opens_answer o.0 ≡ stored_answer (open_stored ws stored.now)
  pub holds : WordsBy (stored_answer (open_stored ws stored.now)) stored o.1.words
  pub orders : o.1.n ≡ count ws

-- [10.6d] What is answered of a round by its page.
abbrev pub paged_answer : Result Page Refusal → Answer
paged_answer (Ok p) = gives (summary_numbers p.summary)
paged_answer (Err r) = refused r

-- [10.6d] What a view gives for round r: the page of the rules, and the fill words as a part of the list that it holds.
pub record PageOf (v : View) (r : ℕ) (p : Result Page Refusal) : Type 0 where
  pub says : paged_answer p ≡ page v.n v.words.now r
  pub fills : IfOk p (λ p. PartOf v.words p.fills (fills_from v.n v.words.now r) (fills_count v.n v.words.now r))

-- [13.12] What a page says of round r of the stored words, beside the sheet ws: what demand 3 reads from the same words; and its
-- fill words are a part of the stored list itself, each with the pieces that demand 3 reads.
pub record PageReads (ws : List ℕ) (stored : Bor (List ℕ)) (r : ℕ) (p : Page) : Type 0 where
  pub says : gives (summary_numbers p.summary) ≡ gives (summary_of (round_said ws stored.now r))
  pub part : PartOf stored p.fills (word_place ws r 4) (count ws)
  pub fills : map (λ w. (word_of w).value) p.fills.now ≡ (round_said ws stored.now r).fills
