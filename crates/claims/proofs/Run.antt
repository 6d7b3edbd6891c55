-- A run of rounds by number, for any round function: round s is the round that starts from s, and the run goes on as an opening does. A
-- round that goes on leaves fewer orders with pieces, so the run has a last round before the bound by which its rounds are defined cuts it
-- short. Its words are those of the rounds up to that one, and a last word.
use mathlib.Core.Bool.{Bool, true, false, false≢true}
use mathlib.Core.List.{List, [], ◌∷◌, ◌++◌, append_assoc, append-nil}
use mathlib.Core.Logic.{◌⊎◌, inl, inr}
use mathlib.Core.Path.{◌≡◌, refl, sym, ◌∙◌}
use Prim.Native.Nat.{ℕ, zero, suc, ◌+◌, ◌*◌, ◌≤◌, ◌<◌}
use native.Mathlib.Nat.{suc-mul, eq-or-lt_of_le}
use native.Mathlib.Omega.{arith}
use lib.ListN.{length, length-append, length-map}
use Rattle.claims.proofs.Rounds.{live}
use Rattle.claims.proofs.Sums.{last_or_before}
use Rattle.rules.proofs.Lists.{length-listed}
use Rattle.rules.specs.Lists.{listed}
use Rattle.rules.specs.Opening.{Start, Round, after, goes_on, ending_after, rounds_from, round_words, rounds_words, ending_of, result_words}
use Rattle.rules.specs.Words.{word}
use Rattle.rules.specs.declared.Heading.{Heading}

-- what round k starts from, as long as the run goes on, and that round
unfoldable pub start_at : (Start → Round) → Start → ℕ → Start
start_at round s zero = s
start_at round s (suc k) = after (start_at round s k) (round (start_at round s k))

abbrev pub round_at : (Start → Round) → Start → ℕ → Round
round_at round s k = round (start_at round s k)

module _ (round : Start → Round) (h : Heading) (s : Start) where
  -- the run goes on after each of the rounds before round k
  abbrev pub GoesTo : ℕ → Type 0
  GoesTo k = (j : ℕ) → j < k → goes_on h (round_at round s j) ≡ true

  -- round k is the last
  pub record LastRound (k : ℕ) : Type 0 where
    pub goes : GoesTo k
    pub ends : goes_on h (round_at round s k) ≡ false

  -- ---- The last round

  pub goes_further : (k : ℕ) → GoesTo k → goes_on h (round_at round s k) ≡ true → GoesTo (suc k)
  goes_further k goes on j l = go (last_or_before l)
    where
      go : (j ≡ k) ⊎ (j < k) → goes_on h (round_at round s j) ≡ true
      go (inl e) = rw e on
      go (inr m) = goes j m

  -- no round before the last is the last
  pub last_not_before : (j k : ℕ) → LastRound j → LastRound k → j < k → ⊥
  last_not_before j k here there l = false≢true (sym here.ends ∙ there.goes j l)

  -- some round is the last
  pub record Ending : Type 0 where
    pub number : ℕ
    pub last : LastRound number

  -- at first at most n orders have pieces, and each round that goes on leaves fewer with pieces
  module _ (n : ℕ) (most : live s ≤ n)
      (fewer : (k : ℕ) → goes_on h (round_at round s k) ≡ true → live (after (start_at round s k) (round_at round s k)) < live (start_at round s k)) where
    pub few_rounds : (k : ℕ) → GoesTo k → k + live (start_at round s k) ≤ n
    unfolding start_at
    few_rounds zero goes = omega arith
    few_rounds (suc k) goes = omega (arith, few_rounds k (λ j l. goes j (omega arith)), fewer k (goes k (omega arith)))

    -- so one of the rounds from round k on is the last, found by running at most `more` of them
    ending_from : (more k : ℕ) → n < k + more → GoesTo k → Ending
    ending_from zero k few goes = absurd (omega (arith, few_rounds k goes))
    ending_from (suc more) k few goes = go (goes_on h (round_at round s k)) refl
        (λ e. ending_from more (suc k) (omega arith) (goes_further k goes e))
      where
        go : (t : Bool) → goes_on h (round_at round s k) ≡ t → (goes_on h (round_at round s k) ≡ true → Ending) → Ending
        go true e later = later e
        go false e later = record { number = k; last = record { goes = goes; ends = e } }

    pub ending_round : Ending
    ending_round = ending_from (suc n) 0 (omega arith) (λ j l. absurd (omega arith))

  -- ---- The rounds up to the last

  -- the rounds before round j, and those from it on with at most `more` after it
  abbrev rounds_over : ℕ → ℕ → List Round
  rounds_over j more = listed (round_at round s) j ++ rounds_from round h more (start_at round s j)

  rounds_on : (k : ℕ) → LastRound k → (more j : ℕ) → j ≤ k → k ≤ j + more → rounds_over j more ≡ listed (round_at round s) (suc k)
  unfolding rounds_from listed start_at
  rounds_on k last zero j low high = let e : j ≡ k = omega arith in rw e
  rounds_on k last (suc more) j low high = go (eq-or-lt_of_le low) (λ l. rounds_on k last more (suc j) l (omega arith))
    where
      go : (j ≡ k) ⊎ (j < k) → (j < k → rounds_over (suc j) more ≡ listed (round_at round s) (suc k))
          → rounds_over j (suc more) ≡ listed (round_at round s) (suc k)
      go (inl e) later = rw (e, last.ends)
      go (inr l) later =
          rw (last.goes j l) (sym (append_assoc (listed (round_at round s) j) (round_at round s j ∷ []) _) ∙ later l)

  -- the rounds of the run are those up to the last
  rounds_listed : (more k : ℕ) → LastRound k → k ≤ more → rounds_from round h more s ≡ listed (round_at round s) (suc k)
  unfolding start_at listed
  rounds_listed more k last few = rounds_on k last more 0 (omega arith) (omega arith)

  -- and its words theirs, and a last word
  pub run_words : (more k : ℕ) → LastRound k → k ≤ more
      → result_words h (rounds_from round h more s)
      ≡ rounds_words (listed (round_at round s) (suc k)) ++ (word 15 (ending_after h (round_at round s k) * 65536 + suc k) ∷ [])
  unfolding result_words listed ending_of
  run_words more k last few =
      rw (
        rounds_listed more k last few,
        ending_last (listed (round_at round s) k) (round_at round s k),
        length-listed (round_at round s) (suc k),
      )
    where
      ending_last : (rs : List Round) (r : Round) → ending_of h (rs ++ (r ∷ [])) ≡ ending_after h r
      ending_last [] r = refl
      ending_last (q ∷ []) r = refl
      ending_last (q ∷ p ∷ rs) r = ending_last (p ∷ rs) r

-- ---- The words of rounds one after the other

pub words_more : (f : ℕ → Round) (k : ℕ) → rounds_words (listed f (suc k)) ≡ rounds_words (listed f k) ++ round_words (f k)
unfolding listed rounds_words
words_more f k = go (listed f k)
  where
    go : (rs : List Round) → rounds_words (rs ++ (f k ∷ [])) ≡ rounds_words rs ++ round_words (f k)
    go [] = append-nil (round_words (f k))
    go (r ∷ rs) = rw (go rs) (sym (append_assoc (round_words r) (rounds_words rs) (round_words (f k))))

pub round_long : (r : Round) → length (round_words r) ≡ length r.fills + 4
unfolding round_words
round_long r = omega (arith, length-map r.fills (word 14))

pub rounds_long : (f : ℕ → Round) (n : ℕ) → ((k : ℕ) → length (f k).fills ≡ n) → (k : ℕ) → length (rounds_words (listed f k)) ≡ k * (n + 4)
unfolding listed rounds_words
rounds_long f n each zero = omega arith
rounds_long f n each (suc k) =
    rw (words_more f k, length-append, suc-mul) (omega (arith, rounds_long f n each k, round_long (f k), each k))
