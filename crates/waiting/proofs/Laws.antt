-- Laws of the list that the waiting clock follows: what is known behind the words so far, and what the next one leads to.
use mathlib.Core.Bool.{true, false}
use mathlib.Core.List.{List, []}
use mathlib.Core.Path.{◌≡◌, sym, ap, ◌∙◌}
use Prim.Native.Nat.{ℕ, suc, ◌+◌, ◌≤◌, ◌<◌}
use native.Mathlib.Numerals.{add-one}
use Rattle.std.proofs.Common.{Ok, Err}
use Rattle.std.proofs.lemmas.Bool.{le-leb, le-ltb}
use lib.ListN.{length, drop, drop_of_length-le}
use lib.Seq.{drop-cons}
use Rattle.claims.specs.Clock.{SoundClock}
use Rattle.claims.proofs.Waiting.{sound_word}
use Rattle.rules.proofs.Downwards.{Clear, nothing_left, passed, given_clear, refused_stops}
use Rattle.rules.specs.Answers.{gives, refuses, downwards, waiting_fault_number, clock_numbers}
use Rattle.rules.specs.Band.{cannot_widen}
use Rattle.rules.specs.Waiting.{last_second, waiting_word, side_in, time_is_up, after_time, after_second, after_word, waiting_checks, followed}
use Rattle.rules.specs.Words.{word_at}
use Rattle.std.specs.declared.result.Result.{Result}
use Rattle.rules.specs.declared.Clock.{Clock}
use Rattle.rules.specs.declared.WaitingFault.{WaitingFault}
use Rattle.waiting.specs.Steps.{second_word, MovedAs}
use Rattle.waiting.specs.declared.steps.RunningClock.{RunningClock}

-- the end of a phase by time keeps the clock sound
pub sound_time : (second : ℕ) (c : Clock) → second ≤ last_second → c.second ≤ second → time_is_up c.phase second ≡ true
    → cannot_widen (side_in c.phase) c.upper.0 ≡ false → SoundClock c → SoundClock (after_time second c)
unfolding waiting_checks waiting_word after_word after_second
sound_time second c today on up can sound =
    let passes : Clear (waiting_checks 0 c (second_word second)) =
    passed (rw (le-leb second last_second today)) (passed (le-ltb second c.second on) (passed (rw (up, can)) nothing_left)) in
    rw up at (sound_word 0 c (second_word second) passes sound)

-- the words before place i led from the first clock to this one
pub record Following (start : Clock) (ws : List ℕ) (c : Clock) (i : ℕ) : Type 0 where
  pub same : followed start 0 ws ≡ followed c i (drop i ws)

-- what the word at place i led to: the clock after it, or the refusal of the list
abbrev pub LedTo : Clock → List ℕ → ℕ → Result RunningClock WaitingFault → Type 0
LedTo start ws i (Ok next) = Following start ws next.clock (i + 1)
LedTo start ws i (Err f) = refuses (waiting_fault_number f) i ≡ followed start 0 ws

module _ {start : Clock} {ws : List ℕ} {c : Clock} {i : ℕ} (p : Following start ws c i) where
  module _ (more : i < length ws) where
    -- what the word at this place makes of the rest
    next_word : followed start 0 ws
        ≡ downwards (waiting_checks i c (word_at ws i)) (followed (after_word c (word_at ws i)) (i + 1) (drop (suc i) ws))
    unfolding followed
    next_word = p.same ∙ ap (λ (l : List ℕ). followed c i l) (drop-cons ws i 0 more)

    -- a word that moves the clock leads on, one at fault ends the list
    pub following_word : (r : Result RunningClock WaitingFault) → MovedAs c (word_at ws i) r → LedTo start ws i r
    following_word (Ok next) moved =
        let clear = given_clear (waiting_checks i c (word_at ws i)) (gives []) (moved.0 i) in
        record { same = next_word ∙ clear.hands_on _ ∙ rw (moved.1, add-one i) }
    following_word (Err f) moved =
        sym (next_word ∙ (refused_stops (waiting_checks i c (word_at ws i)) [] (moved i)).refuses_all _)

  -- after the last word
  pub following_all : length ws ≤ i → gives (clock_numbers c) ≡ followed start 0 ws
  unfolding followed
  following_all done = sym (p.same ∙ ap (λ (l : List ℕ). followed c i l) (drop_of_length-le ws done))
