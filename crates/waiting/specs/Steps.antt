-- The steps of the waiting clock, for the promises inside this crate: what a word says and does, in the terms of the rules.
-- Serves [9.9] to [9.15].
use Rattle.std.specs.Prelude.{true, false, [], ◌≡◌, ℕ, Ok, Err}
use Rattle.std.specs.declared.result.Result.{Result}
use Rattle.rules.specs.Answers.{gives, refuses, verdict, waiting_fault_number}
use Rattle.rules.specs.Band.{cannot_widen}
use Rattle.rules.specs.Waiting.{waiting_word, side_in, after_time, after_word, waiting_checks}
use Rattle.rules.specs.declared.Clock.{Clock}
use Rattle.rules.specs.declared.Outside.TheVariants.{Above, Below}
use Rattle.rules.specs.declared.WaitingFault.{WaitingFault}
use Rattle.rules.specs.declared.WaitingFault.TheVariants.{Word as WrongWord, Widening}
use Rattle.rules.specs.declared.Word.{Word}
use Rattle.waiting.specs.declared.said.Said.{Said}
use Rattle.waiting.specs.declared.said.Said.TheVariants.{Second, Outside, Inside}
use Rattle.waiting.specs.declared.steps.RunningClock.{RunningClock}

-- The word that says a second.
abbrev pub second_word : ℕ → Word
second_word second = record { kind = 1; value = second }

-- The word that says it.
abbrev pub word_saying : Said → Word
word_saying (Second second) = second_word second
word_saying (Outside Above) = record { kind = 2; value = 0 }
word_saying (Outside Below) = record { kind = 3; value = 0 }
word_saying Inside = record { kind = 4; value = 0 }

-- A word that may stand in a waiting list says this; any other is at fault.
abbrev pub SaidBy : Word → Result Said WaitingFault → Type 0
SaidBy w (Ok said) = (w ≡ word_saying said) × (waiting_word w ≡ true)
SaidBy w (Err f) = (waiting_word w ≡ false) × (f ≡ WrongWord)

-- The end of a phase by time: the band is widened, or it cannot be.
abbrev pub EndsAs : ℕ → Clock → Result Clock WaitingFault → Type 0
EndsAs second c (Ok next) = (cannot_widen (side_in c.phase) c.upper.0 ≡ false) × (next ≡ after_time second c)
EndsAs second c (Err f) = (cannot_widen (side_in c.phase) c.upper.0 ≡ true) × (f ≡ Widening)

-- A word moves the clock and none of its rows arises, or they stop with its fault; whatever its place.
abbrev pub MovedAs : Clock → Word → Result RunningClock WaitingFault → Type 0
MovedAs c w (Ok next) = ((i : ℕ) → verdict (waiting_checks i c w) ≡ gives []) × (next.clock ≡ after_word c w)
MovedAs c w (Err f) = (i : ℕ) → verdict (waiting_checks i c w) ≡ refuses (waiting_fault_number f) i
