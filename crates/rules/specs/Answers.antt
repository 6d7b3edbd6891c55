-- Clauses 2.1–2.5 of docs/RULES.md: what a call answers, and the numbers of the refusals. Each answer of the engine
-- is a `Result`; the definitions at the end give the numbers and values of what it holds, or its refusal.
use Rattle.std.specs.Prelude.{Bool, cond, List, [], ◌∷◌, ◌++◌, ℕ, Ok, Err, get_or}
use Rattle.std.specs.declared.result.Result.{Result}
use Rattle.rules.specs.Lists.{listed}
use Rattle.rules.specs.declared.Band.{Band as Bounds}
use Rattle.rules.specs.declared.Clock.{Clock}
use Rattle.rules.specs.declared.Curves.{Curves}
use Rattle.rules.specs.declared.OrderFault.{OrderFault}
use Rattle.rules.specs.declared.OrderFault.TheVariants.{Kind, Terms, Quantity, Ignored}
use Rattle.rules.specs.declared.Outside.{Outside}
use Rattle.rules.specs.declared.Outside.TheVariants.{Above, Below}
use Rattle.rules.specs.declared.Phase.{Phase}
use Rattle.rules.specs.declared.Phase.TheVariants.{Idle, Waiting}
use Rattle.rules.specs.declared.Price.{Price}
use Rattle.rules.specs.declared.Refusal.{Refusal}
use Rattle.rules.specs.declared.Refusal.TheVariants.{FewWords, HeadingKind, HeadingPrice, HeadingBand, HeadingStep, Length, Order, Argument, AtWord, Tariff, Band, Space, Input}
use Rattle.rules.specs.declared.WaitingFault.{WaitingFault}
use Rattle.rules.specs.declared.WaitingFault.TheVariants.{Word, Second, Widening}

-- [2.1] The numbers that a call gives, or a refusal with its number and its place.
pub data Answer : Type 0 where
  gives : List ℕ → Answer
  refuses : ℕ → ℕ → Answer

-- [2.2] A row of the table of faults: the refusal's number, the place that it returns, and whether it arises.
pub record Check : Type 0 where
  pub number : ℕ
  pub place : ℕ
  pub arises : Bool

-- [2.2] A row at a place: the number of an order, or of a word of a waiting list.
abbrev pub row_at : ℕ → ℕ → Bool → Check
row_at place number arises = record { number = number; place = place; arises = arises }

-- [2.2] A row that returns no place: 0.
abbrev pub row : ℕ → Bool → Check
row number arises = row_at 0 number arises

-- [2.2] The first row from the top that arises is the answer; where none does, it is a.
unfoldable pub downwards : List Check → Answer → Answer
downwards [] a = a
downwards (c ∷ cs) a = cond c.arises (refuses c.number c.place) (downwards cs a)

-- [2.2] What a table says alone: its refusal, or that nothing arises.
abbrev pub verdict : List Check → Answer
verdict cs = downwards cs (gives [])

-- [2.3] The faults of an order: kinds, disposition and limit, quantity, ignored quantity.
abbrev pub fault_number : OrderFault → ℕ
fault_number Kind = 5
fault_number Terms = 6
fault_number Quantity = 7
fault_number Ignored = 8

-- [2.3] The faults of a word of a waiting list: kind or value, a second that goes back, a widening that leaves the grid.
abbrev pub waiting_fault_number : WaitingFault → ℕ
waiting_fault_number Word = 13
waiting_fault_number Second = 14
waiting_fault_number Widening = 11

-- [2.3] All refusals: those of the heading, of an order, of the arguments, of a word of a waiting list, of the tariff, of
-- the band, of the space, and of the program's input.
abbrev pub refusal_number : Refusal → ℕ
refusal_number FewWords = 1
refusal_number HeadingKind = 2
refusal_number HeadingPrice = 3
refusal_number HeadingBand = 15
refusal_number HeadingStep = 17
refusal_number Length = 4
refusal_number (Order f k) = fault_number f
refusal_number Argument = 9
refusal_number (AtWord f i) = waiting_fault_number f
refusal_number Tariff = 16
refusal_number Band = 11
refusal_number Space = 10
refusal_number Input = 12

-- [2.4] Two sorts of faults have a place: of an order's it is the number of the order, of a waiting word's that of the word.
abbrev pub refusal_place : Refusal → ℕ
refusal_place FewWords = 0
refusal_place HeadingKind = 0
refusal_place HeadingPrice = 0
refusal_place HeadingBand = 0
refusal_place HeadingStep = 0
refusal_place Length = 0
refusal_place (Order f k) = k
refusal_place Argument = 0
refusal_place (AtWord f i) = i
refusal_place Tariff = 0
refusal_place Band = 0
refusal_place Space = 0
refusal_place Input = 0

-- [2.4] A refusal as an answer.
abbrev pub refused : Refusal → Answer
refused r = refuses (refusal_number r) (refusal_place r)

-- [2.5] A sheet that is accepted gives nothing more.
abbrev pub check_answer : Result (Unit {0}) Refusal → Answer
check_answer (Ok tt) = gives []
check_answer (Err r) = refused r

-- [2.5] A price.
abbrev pub price_answer : Result Price Refusal → Answer
price_answer (Ok p) = gives (p.0 ∷ [])
price_answer (Err r) = refused r

-- [2.5] Demand, supply and volume.
abbrev pub curves_answer : Result Curves Refusal → Answer
curves_answer (Ok c) = gives (c.demand.0 ∷ c.supply.0 ∷ c.volume.0 ∷ [])
curves_answer (Err r) = refused r

-- [2.5] The first words of a space, as many as counted.
abbrev pub first_words : ℕ → List ℕ → List ℕ
first_words count space = listed (λ i. get_or space i 0) count

-- [2.5] The words written, which are the first of those that the space holds afterwards.
abbrev pub space_answer : Result ℕ Refusal → List ℕ → Answer
space_answer (Ok count) space = gives (first_words count space)
space_answer (Err r) space = refused r

-- [2.5] The lower bound, then the upper.
abbrev pub band_answer : Result Bounds Refusal → Answer
band_answer (Ok b) = gives (b.lower.0 ∷ b.upper.0 ∷ [])
band_answer (Err r) = refused r

-- [2.5] The side of a phase: 0 above the band, 1 below it.
abbrev pub side_number : Outside → ℕ
side_number Above = 0
side_number Below = 1

-- [2.5] During a waiting phase 1, its start and its side; outside one three times 0.
abbrev pub phase_numbers : Phase → List ℕ
phase_numbers Idle = 0 ∷ 0 ∷ 0 ∷ []
phase_numbers (Waiting start side) = 1 ∷ start ∷ side_number side ∷ []

-- [2.5] These three, then the lower bound, the upper, and the openings due.
abbrev pub clock_numbers : Clock → List ℕ
clock_numbers c = phase_numbers c.phase ++ (c.lower.0 ∷ c.upper.0 ∷ c.due ∷ [])

-- [2.5] The clock that a waiting list leads to.
abbrev pub waiting_answer : Result Clock Refusal → Answer
waiting_answer (Ok c) = gives (clock_numbers c)
waiting_answer (Err r) = refused r
