-- Clauses 10.1–10.6 of docs/RULES.md: the calls and what each answers, with refusals 9, 16 and 10 of those on a sheet.
use Rattle.std.specs.Prelude.{Bool, true, false, not, ◌&&◌, List, [], ◌∷◌, ◌++◌, ◌≡◌, ℕ, ltb, length, drop}
use Rattle.rules.specs.Answers.{Answer, gives, refuses, Check, row, downwards}
use Rattle.rules.specs.AuctionPrice.{Level, level, volume}
use Rattle.rules.specs.Band.{indicative_price, next_band, widened_band}
use Rattle.rules.specs.Fees.{tariff_stands, fees_on}
use Rattle.rules.specs.Grid.{on_grid}
use Rattle.rules.specs.Limits.{filed, numbered, standing}
use Rattle.rules.specs.Opening.{Start, Round, round_from, first_start, round_words, opening_by, round_space, opening_space}
use Rattle.rules.specs.Sheet.{heading_of, orders_of, sheet_checks, check_sheet}
use Rattle.rules.specs.Waiting.{waiting_clock}
use Rattle.rules.specs.declared.Standing.{Standing}
use Rattle.rules.specs.declared.Tariff.{Tariff}
use Rattle.rules.specs.declared.Terms.{Terms}
use Rattle.rules.specs.declared.Terms.TheVariants.{WithoutLimit, Limited, Stepper}

-- [10.1] The six calls on a sheet, given as its words: check; limit in force of a Stepper, by its number; curves, at
-- a price; first round and opening, with the number of words of the space; opening with fees, with the tariff, the
-- number of words of the space and the number of places of the fee list. Then indicative price, next band and
-- widening; and the waiting clock, on a band and the words of a waiting list.
pub data Call : Type 0 where
  check : List ℕ → Call
  stepper_limit : List ℕ → ℕ → Call
  curves_at : List ℕ → ℕ → Call
  first_round : List ℕ → ℕ → Call
  opening : List ℕ → ℕ → Call
  opening_fees : List ℕ → Tariff → ℕ → ℕ → Call
  indicative : ℕ → ℕ → ℕ → ℕ → ℕ → Call
  next : ℕ → ℕ → Call
  widen : ℕ → ℕ → ℕ → Call
  waiting : ℕ → ℕ → List ℕ → Call

-- [10.2] What a call on a sheet answers: the sheet's faults first, then the rows of its own.
abbrev pub on_sheet : List ℕ → List Check → List ℕ → Answer
on_sheet ws own vs = downwards (sheet_checks ws ++ own) (gives vs)

-- [10.3] Order k is on the sheet, and it is a Stepper.
abbrev pub stepper : Terms → Bool
stepper (WithoutLimit a) = false
stepper (Limited l a) = false
stepper (Stepper l q) = true

abbrev pub is_stepper : List ℕ → ℕ → Bool
is_stepper ws k = ltb k (heading_of ws).count && stepper (filed (orders_of ws) k).terms

-- [10.4] Demand, supply and volume.
abbrev pub curves_of : Level → List ℕ
curves_of v = v.demand ∷ v.supply ∷ volume v ∷ []

-- [10.4] The orders of a sheet in its first round, at their limits in force.
unfoldable pub first_standing : List ℕ → List Standing
first_standing ws = standing (heading_of ws) (orders_of ws) (first_start ws).remaining

-- [10.5] What a call answers, where first gives the orders of a sheet as they stand in its first round, and round the
-- round of a sheet from a start.
unfoldable pub answer_by : (List ℕ → List Standing) → (List ℕ → Start → Round) → Call → Answer
answer_by first round (check ws) = check_sheet ws
answer_by first round (stepper_limit ws k) = on_sheet ws (row 9 (not (is_stepper ws k)) ∷ []) ((numbered (first ws) k).limit.0 ∷ [])
answer_by first round (curves_at ws p) =
    on_sheet ws (row 9 (not (on_grid p)) ∷ []) (curves_of (level (heading_of ws) (first ws) p))
answer_by first round (first_round ws space) =
    on_sheet ws (row 10 (ltb space (round_space (heading_of ws).count)) ∷ []) (round_words (round ws (first_start ws)))
answer_by first round (opening ws space) =
    on_sheet ws (row 10 (ltb space (opening_space (heading_of ws).count)) ∷ []) (opening_by (round ws) ws)
answer_by first round (opening_fees ws t space places) =
    on_sheet ws
    (row 16 (not (tariff_stands t))
    ∷ row 10 (ltb space (opening_space (heading_of ws).count))
    ∷ row 10 (ltb places (heading_of ws).count)
    ∷ [])
    (opening_by (round ws) ws)
answer_by first round (indicative D H traded closing auction) = indicative_price D H traded closing auction
answer_by first round (next code I) = next_band code I
answer_by first round (widen D H side) = widened_band D H side
answer_by first round (waiting D H ws) = waiting_clock D H ws

-- [10.5] What the rules answer to a call.
unfoldable pub answer : Call → Answer
answer = answer_by first_standing round_from

-- [10.6] What the lent space holds afterwards: the words given and, behind them, what it held; after a refusal just
-- what it held.
abbrev pub space_after : Answer → List ℕ → List ℕ
space_after (gives words) space = words ++ drop (length words) space
space_after (refuses n k) space = space

-- [10.6] A call that is lent a space: what it answered, with what the space held before and holds after.
pub record Writes (call : Call) (before after : List ℕ) (answered : Answer) : Type 0 where
  -- the answer is that of the rules
  pub answers : answered ≡ answer call
  -- and so is all that the space holds: the words written, and beyond them what it held; a refusal writes no word
  pub holds : after ≡ space_after (answer call) before

-- [10.6] The words that an answer gives; a refusal gives none.
abbrev pub words_given : Answer → List ℕ
words_given (gives words) = words
words_given (refuses n k) = []

-- [10.6] What is given for the lent fee list: the fees on the words that the call gives, or its refusal.
abbrev pub fees_given : Tariff → List ℕ → Answer → Answer
fees_given t ws (gives words) = gives (fees_on t ws words)
fees_given t ws (refuses n k) = refuses n k
