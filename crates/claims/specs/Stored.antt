-- Clause 13.12 of docs/RULES.md: what is claimed of stored results.
use Rattle.std.specs.Prelude.{List, [], ◌++◌, ◌≡◌, ℕ, ◌+◌, ◌≤◌, ◌<◌}
use Rattle.claims.specs.Demand3.{Demand3}
use Rattle.rules.specs.Answers.{gives, refuses}
use Rattle.rules.specs.Calls.{opening, answer}
use Rattle.rules.specs.Fills.{fill_of}
use Rattle.rules.specs.Opening.{opening_space}
use Rattle.rules.specs.Result.{count, rounds_in, word_place, round_said}
use Rattle.rules.specs.Stored.{answers, open_stored, stored_round, stored_answer, summary_of, stretch_of, page}
use Rattle.rules.specs.Words.{word_at}

-- [13.12] The stored words open beside the sheet ws.
abbrev pub OpensBeside : List ℕ → List ℕ → Type 0
OpensBeside ws stored = stored_answer (open_stored ws stored) ≡ answers (gives [])

-- [13.12] A result opens exactly if it is the one that the opening writes.
pub record OpensExactly (ws stored : List ℕ) : Type 0 where
  -- what opens is written by the opening in every space that is large enough
  pub written : OpensBeside ws stored → (space : ℕ) → opening_space (count ws) ≤ space → answer (opening ws space) ≡ gives stored
  -- and what the opening writes, in whatever space, opens
  pub opened : (space : ℕ) → answer (opening ws space) ≡ gives stored → OpensBeside ws stored

-- [13.12] What is read of a stored result that opens.
pub record ReadAsSaid (ws stored : List ℕ) : Type 0 where
  -- demand 3 holds of the sheet's words and the stored ones
  pub demand3 : Demand3 ws stored
  -- a page is what demand 3 reads from the same words, and so is a round, which has the stretch of its fill words besides
  pub pages : (r : ℕ) → r < rounds_in ws stored → page (count ws) stored r ≡ gives (summary_of (round_said ws stored r))
  pub rounds : (r : ℕ) → r < rounds_in ws stored
      → stored_answer (stored_round ws stored r) ≡ answers (gives (summary_of (round_said ws stored r) ++ stretch_of (count ws) r))
  -- word k of the stretch is the fill of order k
  pub fills : (r k : ℕ) → k < count ws → (word_at stored (word_place ws r 4 + k)).value ≡ fill_of (round_said ws stored r).fills k
  -- there are no further rounds
  pub beyond : (r : ℕ) → rounds_in ws stored ≤ r → stored_answer (stored_round ws stored r) ≡ answers (refuses 9 0)
