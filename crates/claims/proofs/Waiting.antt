-- A word that is not refused keeps the clock sound: the band stands, the latest second is one of the day, and each opening
-- that is due took at least 600 seconds before the present phase started. So no clock that is answered has more than 143
-- openings due.
use mathlib.Core.Bool.{Bool, true, false, not, ◌&&◌, ◌||◌, false≢true}
use mathlib.Core.List.{List, [], ◌∷◌, ◌++◌}
use mathlib.Core.Path.{◌≡◌, refl, sym, ◌∙◌}
use mathlib.Mathlib.Data.Bool.Basic.{or-eq-false-eq-eq-false-and-eq-false}
use Prim.Native.Nat.{ℕ, ◌+◌, ◌≤◌, ◌<◌}
use native.Mathlib.Nat.{le_refl}
use native.Mathlib.Omega.{arith}
use lib.Dec.{leb, eqb}
use borrow.Author.Tests.{leb-true, ltb-true, ltb-false, lt-ltb, eqb-true, eqb-false, not-false}
use Rattle.claims.specs.Clock.{SoundClock}
use Rattle.claims.specs.Waiting.{WaitingExpected}
use Rattle.rules.proofs.Downwards.{Clear, given_clear, clear_row, clear_rest}
use Rattle.rules.proofs.Grid.{OnGrid, both, is_on_grid, band_on_grid}
use Rattle.rules.proofs.Tests.{by_test}
use Rattle.rules.specs.Answers.{gives, row, phase_numbers}
use Rattle.rules.specs.Band.{band_stands, widened_upper, widened_lower, cannot_widen}
use Rattle.rules.specs.Calls.{answer, answer_by}
use Rattle.rules.specs.Grid.{on_grid, last_price}
use Rattle.rules.specs.Waiting.{last_second, is_second, waiting_word, clock_at_start, start_in, after_outside, after_inside, waiting_time, time_is_up, side_in, after_time, after_second, after_word, waiting_checks, followed, waiting_clock}
use Rattle.rules.specs.Words.{word_of}
use Rattle.rules.specs.declared.Clock.{Clock}
use Rattle.rules.specs.declared.Outside.{Outside}
use Rattle.rules.specs.declared.Outside.TheVariants.{Above, Below}
use Rattle.rules.specs.declared.Phase.{Phase}
use Rattle.rules.specs.declared.Phase.TheVariants.{Idle, Waiting}
use Rattle.rules.specs.declared.Word.{Word}

-- ---- A widened band

-- what a band that stands tells of its bounds, and the other way round
band_bounds : (D H : ℕ) → band_stands D H ≡ true → OnGrid D × OnGrid H × (D < H)
unfolding band_stands
band_bounds D H e =
    let (lower, upper) = band_on_grid D H e in
    (lower, upper, ltb-true D H (both {a = on_grid D && on_grid H} e).1)

bounds_stand : (D H : ℕ) → OnGrid D → OnGrid H → D < H → band_stands D H ≡ true
unfolding band_stands
bounds_stand D H lower upper below = rw (is_on_grid D lower, is_on_grid H upper, lt-ltb D H below)

-- a widened bound does not move inwards, and a lower one stays on the grid
upper_kept : (side H : ℕ) → H ≤ widened_upper side H
unfolding widened_upper
upper_kept side H = by_test (λ u. H ≤ u) (eqb side 0) (λ e. omega arith) (λ e. le_refl H)

lower_kept : (side D : ℕ) → 1 ≤ D → (1 ≤ widened_lower side D) × (widened_lower side D ≤ D)
unfolding widened_lower
lower_kept side D on =
    by_test (λ l. (1 ≤ l) × (l ≤ D)) (eqb side 0 || eqb D 1) (λ e. (on, le_refl D))
    (λ e.
    let other = eqb-false D 1 ((or-eq-false-eq-eq-false-and-eq-false (eqb side 0) (eqb D 1)).0 e).1 in
    (omega (arith, other), omega arith))

-- a band that can be widened stands afterwards
widened_stands : (D H side : ℕ) → band_stands D H ≡ true → cannot_widen side H ≡ false
    → band_stands (widened_lower side D) (widened_upper side H) ≡ true
widened_stands D H side stands can =
    let (lower, upper, below) = band_bounds D H stands in
    let up : H ≤ widened_upper side H = upper_kept side H in
    let down = lower_kept side D lower.0 in
    bounds_stand (widened_lower side D) (widened_upper side H)
    (down.0, omega (arith, lower.1, down.1))
    (omega (arith, upper.0), ltb-false last_price (widened_upper side H) can)
    (omega (arith, down.1))

-- ---- The clock

-- the clock before the first word
pub sound_start : (D H : ℕ) → band_stands D H ≡ true → SoundClock (clock_at_start D H)
sound_start D H stands =
    record { band = stands; today = omega arith; begun = omega arith; apart = omega arith }

sound_outside : (side : Outside) (c : Clock) → SoundClock c → SoundClock (after_outside side c)
unfolding after_outside
sound_outside side c k = record { band = k.band; today = k.today; begun = k.begun; apart = k.apart }

sound_inside : (c : Clock) → SoundClock c → SoundClock (after_inside c)
unfolding after_inside
sound_inside c k = record {
  band = k.band;
  today = k.today;
  begun = le_refl c.second;
  apart = omega (arith, k.apart, k.begun);
}

-- a second at which the time is up is 600 or more after the start
time_up : (p : Phase) (before second : ℕ) → time_is_up p second ≡ true → start_in p before + waiting_time ≤ second
unfolding time_is_up
time_up Idle before second up = absurd (false≢true up)
time_up (Waiting start side) before second up = leb-true (start + waiting_time) second up

-- a later second leaves the start where it was, or moves it on where no phase is on
start_moves : (p : Phase) (before second : ℕ) → start_in p before ≤ before → before ≤ second
    → (start_in p second ≤ second) × (start_in p before ≤ start_in p second)
start_moves Idle before second begun on = (le_refl second, on)
start_moves (Waiting start side) before second begun on = (omega arith, le_refl start)

sound_second : (second : ℕ) (c : Clock) → second ≤ last_second → c.second ≤ second
    → (time_is_up c.phase second && cannot_widen (side_in c.phase) c.upper.0) ≡ false
    → SoundClock c → SoundClock (after_second second c)
unfolding after_second after_time
sound_second second c today on can k =
    by_test SoundClock (time_is_up c.phase second)
    (λ up. record {
      band = widened_stands c.lower.0 c.upper.0 (side_in c.phase) k.band (rw up at can);
      today = today;
      begun = le_refl second;
      apart = let late = time_up c.phase c.second second up in omega (arith, k.apart, late);
    })
    (λ _.
    let moved = start_moves c.phase c.second second k.begun on in
    record { band = k.band; today = today; begun = moved.0; apart = omega (arith, k.apart, moved.1) })

-- a second that is a word of a waiting list is one of the day
pub second_today : (w : Word) → waiting_word w ≡ true → is_second w ≡ true → w.value ≤ last_second
unfolding waiting_word
second_today w known e = leb-true w.value last_second (go (leb w.value last_second) (rw (eqb-true w.kind 1 e) at known))
  where
    go : (t : Bool) → (t || false) ≡ true → t ≡ true
    go true _ = refl
    go false e = e

-- a word that is not refused keeps the clock sound
pub sound_word : (i : ℕ) (c : Clock) (w : Word) → Clear (waiting_checks i c w) → SoundClock c → SoundClock (after_word c w)
unfolding waiting_checks after_word
sound_word i c w clear k =
    by_test SoundClock (is_second w)
    (λ e.
    sound_second w.value c
    (second_today w (not-false (waiting_word w) (clear_row _ _ clear)) e)
    (ltb-false w.value c.second (rw e at (clear_row _ _ (clear_rest _ _ clear))))
    (rw e at (clear_row _ _ (clear_rest _ _ (clear_rest _ _ clear))))
    k)
    (λ _.
    by_test SoundClock (eqb w.kind 2) (λ _. sound_outside Above c k)
    (λ _. by_test SoundClock (eqb w.kind 3) (λ _. sound_outside Below c k) (λ _. sound_inside c k)))

-- ---- The whole list

-- the openings of a day
pub few_due : (c : Clock) → SoundClock c → c.due ≤ 143
few_due c k = omega (arith, k.apart, k.begun, k.today)

-- the last three numbers that a clock answers
last_three : (p : Phase) (l u d phase start side lower upper due : ℕ)
    → gives (phase_numbers p ++ (l ∷ u ∷ d ∷ [])) ≡ gives (phase ∷ start ∷ side ∷ lower ∷ upper ∷ due ∷ [])
    → (l ≡ lower) × (u ≡ upper) × (d ≡ due)
last_three Idle l u d phase start side lower upper due e = (cc, cc, cc)
last_three (Waiting s t) l u d phase start side lower upper due e = (cc, cc, cc)

followed_expected : (c : Clock) (i : ℕ) (ws : List ℕ) (phase start side lower upper due : ℕ) → SoundClock c
    → followed c i ws ≡ gives (phase ∷ start ∷ side ∷ lower ∷ upper ∷ due ∷ [])
    → (band_stands lower upper ≡ true) × (due ≤ 143)
unfolding followed
followed_expected c i [] phase start side lower upper due k e =
    let said = last_three c.phase c.lower.0 c.upper.0 c.due phase start side lower upper due e in
    rw (← said.0, ← said.1, ← said.2) (k.band, few_due c k)
followed_expected c i (w ∷ ws) phase start side lower upper due k e =
    let rest = followed (after_word c (word_of w)) (i + 1) ws in
    let clear = given_clear (waiting_checks i c (word_of w)) rest e in
    followed_expected (after_word c (word_of w)) (i + 1) ws phase start side lower upper due
    (sound_word i c (word_of w) clear k)
    (sym (clear.hands_on rest) ∙ e)

-- the claim
pub waiting_expected : (D H : ℕ) (ws : List ℕ) → WaitingExpected D H ws
unfolding answer answer_by waiting_clock
waiting_expected D H ws phase start side lower upper due e =
    let rest = followed (clock_at_start D H) 0 ws in
    let clear = given_clear (row 9 (not (band_stands D H)) ∷ []) rest e in
    followed_expected (clock_at_start D H) 0 ws phase start side lower upper due
    (sound_start D H (not-false (band_stands D H) (clear_row _ _ clear)))
    (sym (clear.hands_on rest) ∙ e)
