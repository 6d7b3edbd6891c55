-- Clauses 9.9–9.16 of docs/RULES.md: the waiting clock, which follows a list of words, with refusals 9, 11, 13 and 14 of
-- its call.
use Rattle.std.specs.Prelude.{Bool, false, not, ◌&&◌, ◌||◌, cond, List, [], ◌∷◌, ℕ, ◌+◌, leb, ltb, eqb}
use Rattle.rules.specs.Answers.{Answer, gives, Check, row, row_at, downwards, side_number, clock_numbers}
use Rattle.rules.specs.Band.{band_stands, widened_upper, widened_lower, cannot_widen}
use Rattle.rules.specs.Words.{word_of}
use Rattle.rules.specs.declared.Clock.{Clock}
use Rattle.rules.specs.declared.Outside.{Outside}
use Rattle.rules.specs.declared.Outside.TheVariants.{Above, Below}
use Rattle.rules.specs.declared.Phase.{Phase}
use Rattle.rules.specs.declared.Phase.TheVariants.{Idle, Waiting}
use Rattle.rules.specs.declared.Word.{Word}

-- ---- The words of a waiting list

-- [9.9] A day has the seconds 0 to 86,399.
abbrev pub last_second : ℕ
last_second = 86399

-- [9.9] Kind 1 says the second of the day.
abbrev pub is_second : Word → Bool
is_second w = eqb w.kind 1

-- [9.9] Kinds 2, 3 and 4 say that a round was priced above, below or inside the band; their value is 0.
abbrev pub is_round : Word → Bool
is_round w = leb 2 w.kind && leb w.kind 4 && eqb w.value 0

-- [9.9] A word is one of these.
unfoldable pub waiting_word : Word → Bool
waiting_word w = is_second w && leb w.value last_second || is_round w

-- ---- The clock

-- [9.10] Before the first word: no second said, which counts as second 0; no phase, the starting band, no opening due.
abbrev pub clock_at_start : ℕ → ℕ → Clock
clock_at_start D H = record {
  second = 0;
  phase = Idle;
  lower = record { 0 = D };
  upper = record { 0 = H };
  due = 0;
}

-- [9.10] The side of the phase; it matters only where one is on.
abbrev pub side_in : Phase → ℕ
side_in Idle = 0
side_in (Waiting start side) = side_number side

-- [9.11] The second at which the phase started; where none is on, the latest one, at which it would start now.
abbrev pub start_in : Phase → ℕ → ℕ
start_in Idle second = second
start_in (Waiting start side) second = start

-- [9.11] After a round outside the band a phase is on, and the side is that of the round: above or below.
unfoldable pub after_outside : Outside → Clock → Clock
after_outside side c = record {
  second = c.second;
  phase = Waiting (start_in c.phase c.second) side;
  lower = c.lower;
  upper = c.upper;
  due = c.due;
}

-- [9.12] After a round inside the band no phase is on.
unfoldable pub after_inside : Clock → Clock
after_inside c = record { second = c.second; phase = Idle; lower = c.lower; upper = c.upper; due = c.due }

-- [9.13] The time of a phase is 600 seconds: it is up at every second from 600 after the start on.
abbrev pub waiting_time : ℕ
waiting_time = 600

unfoldable pub time_is_up : Phase → ℕ → Bool
time_is_up Idle second = false
time_is_up (Waiting start side) second = leb (start + waiting_time) second

-- [9.13] After a second at which the time is up no phase is on, the band is widened on the phase's side, and one more
-- opening is due.
unfoldable pub after_time : ℕ → Clock → Clock
after_time second c = record {
  second = second;
  phase = Idle;
  lower = record { 0 = widened_lower (side_in c.phase) c.lower.0 };
  upper = record { 0 = widened_upper (side_in c.phase) c.upper.0 };
  due = c.due + 1;
}

-- [9.13] After every other second just that second is the latest.
unfoldable pub after_second : ℕ → Clock → Clock
after_second second c =
    cond (time_is_up c.phase second)
    (after_time second c)
    (record { second = second; phase = c.phase; lower = c.lower; upper = c.upper; due = c.due })

-- [9.14] The clock after a word, from the clock before it. Only words of clause 9.9 come here (9.16).
unfoldable pub after_word : Clock → Word → Clock
after_word c w =
    cond (is_second w)
    (after_second w.value c)
    (cond (eqb w.kind 2) (after_outside Above c) (cond (eqb w.kind 3) (after_outside Below c) (after_inside c)))

-- ---- Where a refusal arises

-- [9.15] The rows of the word at place i: kind and value; a second lower than the latest; a widening that leaves the grid.
unfoldable pub waiting_checks : ℕ → Clock → Word → List Check
waiting_checks i c w =
    row_at i 13 (not (waiting_word w))
    ∷ row_at i 14 (is_second w && ltb w.value c.second)
    ∷ row_at i 11 (is_second w && time_is_up c.phase w.value && cannot_widen (side_in c.phase) c.upper.0)
    ∷ []

-- [9.16] The words from place i on, the clock standing at c: a word is judged, then it moves the clock, then the next one
-- is looked at. After the last one the clock is the answer.
unfoldable pub followed : Clock → ℕ → List ℕ → Answer
followed c i [] = gives (clock_numbers c)
followed c i (w ∷ ws) = downwards (waiting_checks i c (word_of w)) (followed (after_word c (word_of w)) (i + 1) ws)

-- [9.16] The call that follows a waiting list. 9 where the starting band does not stand, before any word.
unfoldable pub waiting_clock : ℕ → ℕ → List ℕ → Answer
waiting_clock D H ws = downwards (row 9 (not (band_stands D H)) ∷ []) (followed (clock_at_start D H) 0 ws)
