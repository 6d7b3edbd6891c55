-- Clauses 12.1–12.6 of docs/RULES.md: P1–P12, further cases, those of the waiting clock, of fees and of the step, with a common statement,
-- that the rules give the answer of the case; then the fees on results, stored results, and the listing, from bytes to text. D is 90, H 110, the last
-- purchase price 100 and I 100, where a sheet says nothing else.
use Rattle.std.specs.Prelude.{List, [], ◌∷◌, ◌++◌, map, ◌≡◌, ℕ, ◌+◌, ◌*◌, length, set, take, replicate}
use Prim.Native.String.{String}
use Rattle.rules.specs.Answers.{Answer, gives, refuses}
use Rattle.rules.specs.Calls.{Call, check, stepper_limit, curves_at, first_round, opening, opening_fees, indicative, next, widen, waiting, answer, fees_given}
use Rattle.rules.specs.Fees.{tariff_of, fees_on}
use Rattle.rules.specs.Listing.{ascii, printed}
use Rattle.rules.specs.Pages.{archived}
use Rattle.rules.specs.Result.{rounds_in, round_said, start_said, pieces_over, traded_over}
use Rattle.rules.specs.Stored.{StoredCall, open_stored, stored_round, StoredAnswer, answers, differs, stored_answer, page}
use Rattle.rules.specs.declared.Side.TheVariants.{Buy}
use Rattle.rules.specs.declared.Tariff.{Tariff}
use Rattle.rules.specs.Words.{word}

-- ---- The table's statement

-- [12.1] A statement that holds of each row of a table.
abbrev pub Each : {A : Type 0} → (A → Type 0) → List A → Type 0
Each P [] = Unit {0}
Each P (c ∷ cs) = P c × Each P cs

-- [12.1] A call, and the answer that it has to get.
pub record Case : Type 0 where
  pub call : Call
  pub expected : Answer

abbrev pub case : Call → Answer → Case
case c d = record { call = c; expected = d }

-- [12.1] The common statement of every case.
abbrev pub Holds : Case → Type 0
Holds c = answer c.call ≡ c.expected

abbrev pub AllHold : List Case → Type 0
AllHold = Each Holds

-- ---- Sheets and results in words

-- [12.2] The three words of an order: kind 6 or 7 with disposition and limit, quantity, ignored quantity.
abbrev pub order : ℕ → ℕ → ℕ → ℕ → ℕ → List ℕ
order kind disposition quantity limit ignored =
    word kind (disposition * 0x100_0000 + limit) ∷ word 8 quantity ∷ word 9 ignored ∷ []

-- [12.2] Pieces at a limit.
abbrev pub buy : ℕ → ℕ → List ℕ
buy quantity limit = order 6 0 quantity limit 0

abbrev pub sell : ℕ → ℕ → List ℕ
sell quantity limit = order 7 0 quantity limit 0

abbrev pub all_or_none_buy : ℕ → ℕ → List ℕ
all_or_none_buy quantity limit = order 6 1 quantity limit 0

abbrev pub all_or_none_sell : ℕ → ℕ → List ℕ
all_or_none_sell quantity limit = order 7 1 quantity limit 0

-- [12.2] Pieces of a Stepper to a limit, with its ignored quantity.
abbrev pub stepper_buy : ℕ → ℕ → ℕ → List ℕ
stepper_buy quantity limit ignored = order 6 2 quantity limit ignored

abbrev pub stepper_sell : ℕ → ℕ → ℕ → List ℕ
stepper_sell quantity limit ignored = order 7 2 quantity limit ignored

-- [12.2] One list after the other.
abbrev pub together : List (List ℕ) → List ℕ
together [] = []
together (l ∷ ls) = l ++ together ls

-- [12.2] The first five words of a sheet of n orders; the sheet of these orders, plain and with a given word as its sixth.
abbrev pub heading : ℕ → List ℕ
heading n = word 1 90 ∷ word 2 110 ∷ word 3 100 ∷ word 4 100 ∷ word 5 n ∷ []

abbrev pub sheet : List (List ℕ) → List ℕ
sheet orders = heading (length orders) ++ together orders

abbrev pub sheet_with : ℕ → List (List ℕ) → List ℕ
sheet_with f orders = heading (length orders) ++ (f ∷ together orders)

-- [12.2] The words of a round: situation, auction price, purchase price, total, fills.
abbrev pub run : ℕ → ℕ → ℕ → ℕ → List ℕ → List ℕ
run situation price purchase total fills =
    word 10 situation ∷ word 11 price ∷ word 12 purchase ∷ word 13 total ∷ map (word 14) fills

-- [12.2] The opening of these orders has these rounds and this ending, in the space that it needs.
abbrev pub opens : List (List ℕ) → List (List ℕ) → ℕ → Case
opens orders rounds ending =
    case (opening (sheet orders) ((length orders + 1) * (length orders + 4) + 1))
    (gives (together rounds ++ (word 15 (ending * 65536 + length rounds) ∷ [])))

-- [12.2] The Stepper of number k stands at this price.
abbrev pub stands_in : List (List ℕ) → ℕ → ℕ → Case
stands_in orders k price = case (stepper_limit (sheet orders) k) (gives (price ∷ []))

-- [12.2] The same, by a step that the sheet says.
abbrev pub stands_by : ℕ → List (List ℕ) → ℕ → ℕ → Case
stands_by step orders k price = case (stepper_limit (sheet_with (word 0 step) orders) k) (gives (price ∷ []))

-- [12.2] The words of a waiting list: a second of the day, and a round above, below or inside the band.
abbrev pub at_second : ℕ → ℕ
at_second s = word 1 s

abbrev pub above : ℕ
above = word 2 0

abbrev pub below : ℕ
below = word 3 0

abbrev pub inside : ℕ
inside = word 4 0

-- [12.2] From the band 90 to 110 these words lead to this clock: the phase with start and side, the band, the openings due.
abbrev pub waits : List ℕ → List ℕ → Case
waits words clock = case (waiting 90 110 words) (gives clock)

-- [12.2] The sheet of the listing, and the words of its result.
abbrev pub listing : List ℕ
listing =
    0x1000005a
    ∷ 0x2000006e
    ∷ 0x30000064
    ∷ 0x40000064
    ∷ 0x50000002
    ∷ 0x60000069
    ∷ 0x8000000a
    ∷ 0x90000000
    ∷ 0x7000005f
    ∷ 0x80000004
    ∷ 0x90000000
    ∷ []

abbrev pub listing_result : List ℕ
listing_result =
    0xa0000000
    ∷ 0xb0000069
    ∷ 0xc0000069
    ∷ 0xd0000004
    ∷ 0xe0000004
    ∷ 0xe0000004
    ∷ 0xa0000002
    ∷ 0xb0000069
    ∷ 0xc0000000
    ∷ 0xd0000000
    ∷ 0xe0000000
    ∷ 0xe0000000
    ∷ 0xf0000002
    ∷ []

-- ---- P1–P12. A quantity that does not matter is 4, and a Stepper's is 7.

-- [12.3] P1–P12.
unfoldable pub document_cases : List Case
document_cases =
    -- P1: the listing
    case (opening listing 19) (gives listing_result)
    -- P2: nobody
    ∷ opens [] (run 4 100 0 0 [] ∷ []) 0
    -- P3: an auction price of 80, below the band; the 5 at 90 that trade are not its volume
    ∷ opens (buy 5 95 ∷ buy 5 80 ∷ sell 10 70 ∷ []) (run 0 80 90 5 (5 ∷ 0 ∷ 5 ∷ []) ∷ []) 2
    -- P4: an all-or-none order that does not fit blocks
    ∷ opens (all_or_none_buy 10 105 ∷ sell 4 95 ∷ []) (run 0 105 0 0 (0 ∷ 0 ∷ []) ∷ []) 1
    -- P5: a sell above I
    ∷ opens (sell 4 104 ∷ []) (run 1 100 0 0 (0 ∷ []) ∷ []) 0
    -- P6: a sell below I
    ∷ opens (sell 4 97 ∷ []) (run 1 97 0 0 (0 ∷ []) ∷ []) 0
    -- P7: both sides, apart
    ∷ opens (buy 4 95 ∷ sell 4 105 ∷ []) (run 3 100 0 0 (0 ∷ 0 ∷ []) ∷ []) 0
    -- P8: any price from 95 to 105 would do, the last purchase price is taken
    ∷ opens (buy 4 105 ∷ sell 4 95 ∷ []) (run 0 100 100 4 (4 ∷ 4 ∷ []) ∷ run 4 100 0 0 (0 ∷ 0 ∷ []) ∷ []) 0
    -- P9: rivals of 5 and 3 pieces, of which the Stepper ignores 5, then 4
    ∷ stands_in (buy 5 104 ∷ buy 3 101 ∷ stepper_buy 7 108 5 ∷ []) 2 102
    ∷ stands_in (buy 5 104 ∷ buy 3 101 ∷ stepper_buy 7 108 4 ∷ []) 2 105
    -- P10: a Stepper without rivals
    ∷ stands_in (stepper_buy 7 108 0 ∷ []) 0 90
    ∷ stands_in (stepper_buy 7 80 0 ∷ []) 0 80
    -- P11: above the band limits are alike, and who filed first is filled
    ∷ opens (buy 3 115 ∷ buy 3 120 ∷ sell 3 95 ∷ [])
    (run 0 110 110 3 (3 ∷ 0 ∷ 3 ∷ []) ∷ run 2 110 0 0 (0 ∷ 0 ∷ 0 ∷ []) ∷ [])
    0
    -- P12: next bands of shares at both ends of the grid
    ∷ case (next 0 2) (gives (1 ∷ 3 ∷ []))
    ∷ case (next 0 833334) (gives (666668 ∷ 1000000 ∷ []))
    ∷ case (next 0 833335) (refuses 11 0)
    -- P12: widening, up to the end of the grid
    ∷ case (widen 90 110 0) (gives (90 ∷ 121 ∷ []))
    ∷ case (widen 95 110 1) (gives (86 ∷ 110 ∷ []))
    ∷ case (widen 90 909091 0) (gives (90 ∷ 1000000 ∷ []))
    ∷ case (widen 90 909092 0) (refuses 11 0)
    ∷ []

-- ---- Further cases, worked out by hand

-- [12.4] Further cases.
unfoldable pub further_cases : List Case
further_cases =
    -- An error that tempts: to skip an all-or-none order for which there are too few pieces, and to serve those after it. Of the
    -- sells 4 are basic and 8 all-or-none, so they can sell up to 4, or 12; the buys nothing, 10 or 11. The buy of 1 gets nothing.
    opens (all_or_none_buy 10 105 ∷ buy 1 100 ∷ sell 4 95 ∷ all_or_none_sell 8 95 ∷ [])
    (run 0 95 0 0 (0 ∷ 0 ∷ 0 ∷ 0 ∷ []) ∷ [])
    1
    -- An error that tempts: rivals taken at their stepped price. Each Stepper sees the other at its entered limit.
    ∷ stands_in (stepper_buy 7 108 0 ∷ stepper_buy 7 106 0 ∷ []) 0 107
    ∷ stands_in (stepper_buy 7 108 0 ∷ stepper_buy 7 106 0 ∷ []) 1 106
    ∷ stands_in (stepper_sell 7 92 6 ∷ stepper_sell 7 94 0 ∷ []) 0 93
    -- P9 and P10 mirrored
    ∷ stands_in (sell 5 96 ∷ sell 3 99 ∷ stepper_sell 7 92 5 ∷ []) 2 98
    ∷ stands_in (sell 5 96 ∷ sell 3 99 ∷ stepper_sell 7 92 4 ∷ []) 2 95
    ∷ stands_in (stepper_sell 7 92 0 ∷ []) 0 110
    ∷ stands_in (stepper_sell 7 120 0 ∷ []) 0 120
    -- an order without limit is a rival at the bound; above it a Stepper's limit in force may lie outside the band
    ∷ stands_in (buy 5 0 ∷ stepper_buy 7 200 4 ∷ []) 1 111
    -- a Stepper's limit in force is worked out afresh: with its rival filled it stands at D
    ∷ opens (buy 3 104 ∷ stepper_buy 5 103 0 ∷ sell 3 95 ∷ [])
    (run 0 103 103 3 (3 ∷ 0 ∷ 3 ∷ []) ∷ run 2 100 0 0 (0 ∷ 0 ∷ 0 ∷ []) ∷ [])
    0
    -- three rounds: the Stepper stands at 103 while both rivals do, and at D when the first is filled; only then does the second trade
    ∷ opens (all_or_none_buy 4 104 ∷ stepper_buy 2 110 4 ∷ all_or_none_buy 4 102 ∷ all_or_none_sell 4 98 ∷ all_or_none_sell 4 99 ∷ [])
    (run 0 102 102 4 (4 ∷ 0 ∷ 0 ∷ 4 ∷ 0 ∷ [])
    ∷ run 0 102 102 4 (0 ∷ 0 ∷ 4 ∷ 0 ∷ 4 ∷ [])
    ∷ run 2 100 0 0 (0 ∷ 0 ∷ 0 ∷ 0 ∷ 0 ∷ [])
    ∷ [])
    0
    -- the purchase price 105 becomes the last purchase price
    ∷ opens (buy 4 105 ∷ sell 4 105 ∷ []) (run 0 105 105 4 (4 ∷ 4 ∷ []) ∷ run 4 105 0 0 (0 ∷ 0 ∷ []) ∷ []) 0
    -- basic before all-or-none at the same limit, though filed later
    ∷ opens (all_or_none_buy 4 105 ∷ buy 4 105 ∷ sell 4 105 ∷ [])
    (run 0 105 105 4 (0 ∷ 4 ∷ 4 ∷ []) ∷ run 2 105 0 0 (0 ∷ 0 ∷ 0 ∷ []) ∷ [])
    0
    -- P3 and P11 mirrored; an auction price outside the band ends the opening also where nothing trades
    ∷ opens (sell 5 105 ∷ sell 5 120 ∷ buy 10 130 ∷ []) (run 0 120 110 5 (5 ∷ 0 ∷ 5 ∷ []) ∷ []) 2
    ∷ opens (sell 3 85 ∷ sell 3 80 ∷ buy 3 105 ∷ [])
    (run 0 90 90 3 (3 ∷ 0 ∷ 3 ∷ []) ∷ run 1 90 0 0 (0 ∷ 0 ∷ 0 ∷ []) ∷ [])
    0
    ∷ opens (buy 5 80 ∷ sell 5 70 ∷ []) (run 0 80 0 0 (0 ∷ 0 ∷ []) ∷ []) 2
    -- the curves of P3, at 80 and at 95
    ∷ case (curves_at (sheet (buy 5 95 ∷ buy 5 80 ∷ sell 10 70 ∷ [])) 80) (gives (10 ∷ 10 ∷ 10 ∷ []))
    ∷ case (curves_at (sheet (buy 5 95 ∷ buy 5 80 ∷ sell 10 70 ∷ [])) 95) (gives (5 ∷ 10 ∷ 5 ∷ []))
    -- situations 1–4 look only inside D..H: a sell alone at 80 counts from 90 on, a buy alone at 80 not at all
    ∷ opens (sell 4 80 ∷ []) (run 1 90 0 0 (0 ∷ []) ∷ []) 0
    ∷ opens (buy 4 80 ∷ []) (run 4 100 0 0 (0 ∷ []) ∷ []) 0
    -- the listing's first round alone, and its space one word short
    ∷ case (first_round listing 6)
    (gives (0xa0000000 ∷ 0xb0000069 ∷ 0xc0000069 ∷ 0xd0000004 ∷ 0xe0000004 ∷ 0xe0000004 ∷ []))
    ∷ case (first_round listing 5) (refuses 10 0)
    ∷ case (opening listing 18) (refuses 10 0)
    -- arguments: not a Stepper, no such order, a price off the grid
    ∷ case (stepper_limit listing 0) (refuses 9 0)
    ∷ case (stepper_limit (sheet (stepper_buy 7 108 0 ∷ [])) 1) (refuses 9 0)
    ∷ case (curves_at listing 0) (refuses 9 0)
    ∷ case (curves_at listing 1000001) (refuses 9 0)
    -- the listing's sheet is accepted; its first four words alone are too few; a heading of 121 orders alone is too
    -- short, and with all their words there are too many
    ∷ case (check listing) (gives [])
    ∷ case (check (0x1000005a ∷ 0x2000006e ∷ 0x30000064 ∷ 0x40000064 ∷ [])) (refuses 1 0)
    ∷ case (check (0x1000005a ∷ 0x2000006e ∷ 0x30000064 ∷ 0x40000064 ∷ 0x50000079 ∷ [])) (refuses 4 0)
    ∷ case (check (0x1000005a ∷ 0x2000006e ∷ 0x30000064 ∷ 0x40000064 ∷ 0x50000079 ∷ replicate 363 0)) (refuses 4 0)
    -- a wrong kind comes before a price off the grid; a last purchase price off the grid; two words too many
    ∷ case (check (0x1000005a ∷ 0x2000006e ∷ 0x30000000 ∷ 0x50000064 ∷ 0x50000000 ∷ [])) (refuses 2 0)
    ∷ case (check (0x1000005a ∷ 0x2000006e ∷ 0x30000000 ∷ 0x40000064 ∷ 0x50000000 ∷ [])) (refuses 3 0)
    ∷ case (check (sheet [] ++ (0x60000000 ∷ 0x80000001 ∷ []))) (refuses 4 0)
    -- I at D; I at H, which comes before a wrong length; a last purchase price off the grid, which comes before I at D
    ∷ case (check (0x1000005a ∷ 0x2000006e ∷ 0x30000064 ∷ 0x4000005a ∷ 0x50000000 ∷ [])) (refuses 15 0)
    ∷ case (check (0x1000005a ∷ 0x2000006e ∷ 0x30000064 ∷ 0x4000006e ∷ 0x50000001 ∷ [])) (refuses 15 0)
    ∷ case (check (0x1000005a ∷ 0x2000006e ∷ 0x30000000 ∷ 0x4000005a ∷ 0x50000001 ∷ [])) (refuses 3 0)
    -- the faults of the second order: a disposition of 3, a quantity of 1,000,001, something ignored by a limited order
    ∷ case (check (sheet (buy 4 95 ∷ order 6 3 4 95 0 ∷ []))) (refuses 6 1)
    ∷ case (check (sheet (buy 4 95 ∷ sell 1000001 95 ∷ []))) (refuses 7 1)
    ∷ case (check (sheet (buy 4 95 ∷ order 7 0 4 95 1 ∷ []))) (refuses 8 1)
    -- a Stepper without limit comes before its quantity of 0 and its ignored quantity of 1,000,001
    ∷ case (check (sheet (stepper_buy 0 0 1000001 ∷ []))) (refuses 6 0)
    -- the next band of certificates
    ∷ case (next 1 100) (gives (75 ∷ 125 ∷ []))
    -- the indicative price: the closing purchase price as it is; the last auction price moved into the band
    ∷ case (indicative 90 110 1 200 0) (gives (200 ∷ []))
    ∷ case (indicative 90 110 0 0 80) (gives (90 ∷ []))
    ∷ case (indicative 90 110 0 0 130) (gives (110 ∷ []))
    ∷ case (indicative 90 90 1 100 100) (refuses 9 0)
    -- a widened bound has to move: below 10 by 1, from 10 on by the tenth; only a lower bound of 1 stays
    ∷ case (widen 4 5 0) (gives (4 ∷ 6 ∷ []))
    ∷ case (widen 5 6 1) (gives (4 ∷ 6 ∷ []))
    ∷ case (widen 1 2 0) (gives (1 ∷ 3 ∷ []))
    ∷ case (widen 2 3 1) (gives (1 ∷ 3 ∷ []))
    ∷ case (widen 1 3 1) (gives (1 ∷ 3 ∷ []))
    ∷ case (widen 8 9 0) (gives (8 ∷ 10 ∷ []))
    ∷ case (widen 9 10 0) (gives (9 ∷ 11 ∷ []))
    ∷ case (widen 9 10 1) (gives (8 ∷ 10 ∷ []))
    ∷ case (widen 10 20 1) (gives (9 ∷ 20 ∷ []))
    ∷ case (widen 10 20 0) (gives (10 ∷ 22 ∷ []))
    ∷ case (widen 20 30 1) (gives (18 ∷ 30 ∷ []))
    -- an upper bound at the end of the grid does not stay but is refused; the arguments come first
    ∷ case (widen 1 1000000 1) (gives (1 ∷ 1000000 ∷ []))
    ∷ case (widen 1 1000000 0) (refuses 11 0)
    ∷ case (widen 1 1000000 2) (refuses 9 0)
    ∷ case (widen 5 5 0) (refuses 9 0)
    ∷ []

-- ---- The waiting clock, worked out by hand

-- [12.4a] Cases of the waiting clock.
unfoldable pub waiting_cases : List Case
waiting_cases =
    -- no words: the starting band
    waits [] (0 ∷ 0 ∷ 0 ∷ 90 ∷ 110 ∷ 0 ∷ [])
    -- the first round outside starts a phase: before any second at 0, else at the latest one
    ∷ waits (above ∷ []) (1 ∷ 0 ∷ 0 ∷ 90 ∷ 110 ∷ 0 ∷ [])
    ∷ waits (at_second 900 ∷ at_second 1000 ∷ below ∷ []) (1 ∷ 1000 ∷ 1 ∷ 90 ∷ 110 ∷ 0 ∷ [])
    -- a later one keeps the start and sets the side
    ∷ waits (at_second 1000 ∷ above ∷ at_second 1300 ∷ below ∷ []) (1 ∷ 1000 ∷ 1 ∷ 90 ∷ 110 ∷ 0 ∷ [])
    ∷ waits (at_second 1000 ∷ above ∷ at_second 1300 ∷ below ∷ at_second 1600 ∷ []) (0 ∷ 0 ∷ 0 ∷ 81 ∷ 110 ∷ 1 ∷ [])
    -- 599 seconds after the start the phase is on, 600 after it is over; also a phase that began before any second
    ∷ waits (at_second 1000 ∷ above ∷ at_second 1599 ∷ []) (1 ∷ 1000 ∷ 0 ∷ 90 ∷ 110 ∷ 0 ∷ [])
    ∷ waits (at_second 1000 ∷ above ∷ at_second 1600 ∷ []) (0 ∷ 0 ∷ 0 ∷ 90 ∷ 121 ∷ 1 ∷ [])
    ∷ waits (above ∷ at_second 599 ∷ []) (1 ∷ 0 ∷ 0 ∷ 90 ∷ 110 ∷ 0 ∷ [])
    ∷ waits (above ∷ at_second 600 ∷ []) (0 ∷ 0 ∷ 0 ∷ 90 ∷ 121 ∷ 1 ∷ [])
    -- a round inside ends a phase and makes no opening due; where none is on it changes nothing
    ∷ waits (at_second 1000 ∷ above ∷ inside ∷ at_second 1600 ∷ []) (0 ∷ 0 ∷ 0 ∷ 90 ∷ 110 ∷ 0 ∷ [])
    ∷ waits (inside ∷ at_second 1000 ∷ inside ∷ []) (0 ∷ 0 ∷ 0 ∷ 90 ∷ 110 ∷ 0 ∷ [])
    -- a phase that starts in the second at which another ended
    ∷ waits (at_second 1000 ∷ above ∷ at_second 1600 ∷ above ∷ []) (1 ∷ 1600 ∷ 0 ∷ 90 ∷ 121 ∷ 1 ∷ [])
    ∷ waits (at_second 1000 ∷ above ∷ at_second 1600 ∷ below ∷ at_second 2199 ∷ at_second 2200 ∷ []) (0 ∷ 0 ∷ 0 ∷ 81 ∷ 121 ∷ 2 ∷ [])
    -- a second long after the time is up ends one phase and makes one opening due
    ∷ waits (above ∷ at_second 5000 ∷ above ∷ []) (1 ∷ 5000 ∷ 0 ∷ 90 ∷ 121 ∷ 1 ∷ [])
    -- the same second twice, and the last of the day; none after it, and no other kind or value
    ∷ waits (at_second 1000 ∷ at_second 1000 ∷ at_second 86399 ∷ []) (0 ∷ 0 ∷ 0 ∷ 90 ∷ 110 ∷ 0 ∷ [])
    ∷ case (waiting 90 110 (at_second 86400 ∷ [])) (refuses 13 0)
    ∷ case (waiting 90 110 (at_second 1000 ∷ word 0 0 ∷ [])) (refuses 13 1)
    ∷ case (waiting 90 110 (above ∷ word 5 0 ∷ above ∷ [])) (refuses 13 1)
    ∷ case (waiting 90 110 (word 2 1 ∷ [])) (refuses 13 0)
    ∷ case (waiting 90 110 (word 3 1 ∷ [])) (refuses 13 0)
    ∷ case (waiting 90 110 (word 4 1 ∷ [])) (refuses 13 0)
    -- a second lower than the one before, also after a phase has ended; the first word at fault counts
    ∷ case (waiting 90 110 (at_second 1000 ∷ above ∷ at_second 999 ∷ [])) (refuses 14 2)
    ∷ case (waiting 90 110 (at_second 1000 ∷ above ∷ at_second 1600 ∷ inside ∷ at_second 1599 ∷ [])) (refuses 14 4)
    ∷ case (waiting 90 110 (at_second 1000 ∷ at_second 999 ∷ word 0 0 ∷ [])) (refuses 14 1)
    -- the end of the grid: reached, then passed, at the second that widens; a lower bound stays on it
    ∷ case (waiting 90 909091 (above ∷ at_second 600 ∷ [])) (gives (0 ∷ 0 ∷ 0 ∷ 90 ∷ 1000000 ∷ 1 ∷ []))
    ∷ case (waiting 90 909092 (above ∷ at_second 600 ∷ [])) (refuses 11 1)
    ∷ case (waiting 90 900000 (above ∷ at_second 600 ∷ above ∷ at_second 1199 ∷ at_second 1200 ∷ [])) (refuses 11 4)
    ∷ case (waiting 90 1000000 (above ∷ below ∷ at_second 600 ∷ [])) (gives (0 ∷ 0 ∷ 0 ∷ 81 ∷ 1000000 ∷ 1 ∷ []))
    ∷ case (waiting 1 110 (below ∷ at_second 600 ∷ [])) (gives (0 ∷ 0 ∷ 0 ∷ 1 ∷ 110 ∷ 1 ∷ []))
    -- bounds below 10 move by 1 at each such second; one that stays at 1 makes an opening due like any other
    ∷ case (waiting 4 5 (above ∷ at_second 600 ∷ above ∷ at_second 1200 ∷ [])) (gives (0 ∷ 0 ∷ 0 ∷ 4 ∷ 7 ∷ 2 ∷ []))
    ∷ case (waiting 5 6 (below ∷ at_second 600 ∷ above ∷ at_second 1200 ∷ [])) (gives (0 ∷ 0 ∷ 0 ∷ 4 ∷ 7 ∷ 2 ∷ []))
    ∷ case (waiting 2 6 (below ∷ at_second 600 ∷ below ∷ at_second 1200 ∷ [])) (gives (0 ∷ 0 ∷ 0 ∷ 1 ∷ 6 ∷ 2 ∷ []))
    -- what a word is comes before what it does: a second that the day has not, where the widening would fail
    ∷ case (waiting 90 1000000 (above ∷ at_second 86400 ∷ [])) (refuses 13 1)
    -- a starting band that is none, before any word
    ∷ case (waiting 110 110 (word 0 0 ∷ [])) (refuses 9 0)
    ∷ case (waiting 0 110 []) (refuses 9 0)
    ∷ case (waiting 90 1000001 []) (refuses 9 0)
    ∷ []

-- ---- Fees, worked out by hand

-- [12.4b] The call, mostly for the listing's sheet: its opening needs a space of 19 words, and its fees need 2 places.
unfoldable pub fee_cases : List Case
fee_cases =
    -- the words are those of the opening, whatever the tariff; more places than orders do no harm
    case (opening_fees listing (tariff_of 35 0 100000000) 19 2) (gives listing_result)
    ∷ case (opening_fees listing (tariff_of 0 0 0) 20 3) (gives listing_result)
    -- both ends of each range, and beyond them
    ∷ case (opening_fees listing (tariff_of 10000 100000000 100000000) 19 2) (gives listing_result)
    ∷ case (opening_fees listing (tariff_of 10001 0 100000000) 19 2) (refuses 16 0)
    ∷ case (opening_fees listing (tariff_of 35 100000001 100000001) 19 2) (refuses 16 0)
    ∷ case (opening_fees listing (tariff_of 35 0 100000001) 19 2) (refuses 16 0)
    -- least and greatest fee alike, and exchanged
    ∷ case (opening_fees listing (tariff_of 35 7 7) 19 2) (gives listing_result)
    ∷ case (opening_fees listing (tariff_of 35 8 7) 19 2) (refuses 16 0)
    -- either space too small; the tariff comes before both, and the sheet before the tariff
    ∷ case (opening_fees listing (tariff_of 35 0 100) 18 2) (refuses 10 0)
    ∷ case (opening_fees listing (tariff_of 35 0 100) 19 1) (refuses 10 0)
    ∷ case (opening_fees listing (tariff_of 35 8 7) 18 1) (refuses 16 0)
    ∷ case (opening_fees (sheet (buy 4 95 ∷ sell 0 95 ∷ [])) (tariff_of 35 8 7) 0 0) (refuses 7 1)
    -- no orders: a single round, and no place is needed
    ∷ case (opening_fees (sheet []) (tariff_of 35 0 100) 5 0) (gives (run 4 100 0 0 [] ++ (0xf0000001 ∷ [])))
    ∷ []

-- [12.4b] A tariff, a sheet, words in the form of a result, and the fees that they have to give. The words need not be
-- those that the sheet's opening writes: a fee asks only what they say.
pub record Charge : Type 0 where
  pub tariff : Tariff
  pub sheet : List ℕ
  pub result : List ℕ
  pub fees : List ℕ

abbrev pub charge : Tariff → List ℕ → List ℕ → List ℕ → Charge
charge t ws rs fees = record { tariff = t; sheet = ws; result = rs; fees = fees }

abbrev pub AllCharge : List Charge → Type 0
AllCharge = Each (λ c. fees_on c.tariff c.sheet c.result ≡ c.fees)

-- [12.4b] Such words for the listing's two orders, which get the same pieces at this price in so many rounds.
abbrev pub alike : ℕ → ℕ → ℕ → List ℕ
alike rounds pieces price =
    together (replicate rounds (run 0 price price pieces (pieces ∷ pieces ∷ []))) ++ (word 15 rounds ∷ [])

-- [12.4b] Fees on results.
unfoldable pub charges : List Charge
charges =
    -- 4 pieces at 105 are worth 4,200 hellers: 35 ten-thousandths are 14.7, 24 are 10.08, 25 are 10.5
    charge (tariff_of 35 0 100000000) listing listing_result (15 ∷ 15 ∷ [])
    ∷ charge (tariff_of 24 0 100000000) listing listing_result (10 ∷ 10 ∷ [])
    ∷ charge (tariff_of 25 0 100000000) listing listing_result (11 ∷ 11 ∷ [])
    -- a worth of 4,990 and of 5,000 hellers at a ten-thousandth
    ∷ charge (tariff_of 1 0 100000000) listing (alike 1 1 499) (0 ∷ 0 ∷ [])
    ∷ charge (tariff_of 1 0 100000000) listing (alike 1 1 500) (1 ∷ 1 ∷ [])
    -- raised to the least fee, cut to the greatest, and one that is both already; 10.5, rounded up, is just the least fee
    ∷ charge (tariff_of 35 16 100) listing listing_result (16 ∷ 16 ∷ [])
    ∷ charge (tariff_of 35 0 14) listing listing_result (14 ∷ 14 ∷ [])
    ∷ charge (tariff_of 35 15 15) listing listing_result (15 ∷ 15 ∷ [])
    ∷ charge (tariff_of 25 11 100) listing listing_result (11 ∷ 11 ∷ [])
    -- P3: the purchase price 90 and not the auction price 80; the order that gets nothing pays nothing, whatever the least fee
    ∷ charge (tariff_of 1000 0 100000000) (sheet (buy 5 95 ∷ buy 5 80 ∷ sell 10 70 ∷ []))
    (run 0 80 90 5 (5 ∷ 0 ∷ 5 ∷ []) ++ (0xf0020001 ∷ []))
    (450 ∷ 0 ∷ 450 ∷ [])
    ∷ charge (tariff_of 1000 500 100000000) (sheet (buy 5 95 ∷ buy 5 80 ∷ sell 10 70 ∷ []))
    (run 0 80 90 5 (5 ∷ 0 ∷ 5 ∷ []) ++ (0xf0020001 ∷ []))
    (500 ∷ 0 ∷ 500 ∷ [])
    -- two rounds: half a heller is rounded up in each, and each fee is raised
    ∷ charge (tariff_of 1 0 100000000) listing (alike 2 1 500) (2 ∷ 2 ∷ [])
    ∷ charge (tariff_of 1 3 100000000) listing (alike 2 1 500) (6 ∷ 6 ∷ [])
    -- orders that trade in different rounds, at different prices
    ∷ charge (tariff_of 100 0 100000000) (sheet (buy 7 105 ∷ sell 4 95 ∷ sell 3 100 ∷ []))
    (run 0 100 100 4 (4 ∷ 4 ∷ 0 ∷ []) ++ run 0 105 105 3 (3 ∷ 0 ∷ 3 ∷ []) ++ (0xf0000002 ∷ []))
    (72 ∷ 40 ∷ 32 ∷ [])
    -- a million pieces at the highest price, and more than 32 bits over 43 rounds
    ∷ charge (tariff_of 10000 0 100000000) listing (alike 1 1000000 1000000) (100000000 ∷ 100000000 ∷ [])
    ∷ charge (tariff_of 10000 0 100000000) listing (alike 43 1000000 1000000) (4300000000 ∷ 4300000000 ∷ [])
    -- nobody
    ∷ charge (tariff_of 35 7 7) (sheet []) (run 4 100 0 0 [] ++ (0xf0000001 ∷ [])) []
    ∷ []

-- ---- The step, worked out by hand

-- [12.4c] Cases of the step.
unfoldable pub step_cases : List Case
step_cases =
    -- P9 by steps of 1, as if the sheet said nothing, and of 3; by one of 5, where it ignores 4, and of 1,000 up to its limit
    stands_by 1 (buy 5 104 ∷ buy 3 101 ∷ stepper_buy 7 108 5 ∷ []) 2 102
    ∷ stands_by 1 (buy 5 104 ∷ buy 3 101 ∷ stepper_buy 7 108 4 ∷ []) 2 105
    ∷ stands_by 3 (buy 5 104 ∷ buy 3 101 ∷ stepper_buy 7 108 5 ∷ []) 2 104
    ∷ stands_by 3 (buy 5 104 ∷ buy 3 101 ∷ stepper_buy 7 108 4 ∷ []) 2 107
    ∷ stands_by 5 (buy 5 104 ∷ buy 3 101 ∷ stepper_buy 7 108 4 ∷ []) 2 108
    ∷ stands_by 1000 (buy 5 104 ∷ buy 3 101 ∷ stepper_buy 7 108 5 ∷ []) 2 108
    -- P10 by the largest step: without a rival price it stands where it stood
    ∷ stands_by 1000 (stepper_buy 7 108 0 ∷ []) 0 90
    ∷ stands_by 1000 (stepper_buy 7 80 0 ∷ []) 0 80
    -- both mirrored
    ∷ stands_by 3 (sell 5 96 ∷ sell 3 99 ∷ stepper_sell 7 92 5 ∷ []) 2 96
    ∷ stands_by 3 (sell 5 96 ∷ sell 3 99 ∷ stepper_sell 7 92 4 ∷ []) 2 93
    ∷ stands_by 5 (sell 5 96 ∷ sell 3 99 ∷ stepper_sell 7 92 4 ∷ []) 2 92
    ∷ stands_by 1000 (stepper_sell 7 92 0 ∷ []) 0 110
    ∷ stands_by 1000 (stepper_sell 7 120 0 ∷ []) 0 120
    -- two Steppers go by each other's entered limits; rivals that have just what is ignored give no best rival price
    ∷ stands_by 3 (stepper_buy 7 108 0 ∷ stepper_buy 7 100 0 ∷ []) 0 103
    ∷ stands_by 3 (buy 5 104 ∷ stepper_buy 7 108 5 ∷ []) 1 90
    -- the largest step in full; the ends of the grid, the last price passed, the first just reached and then passed
    ∷ stands_by 1000 (buy 5 104 ∷ stepper_buy 7 2000 4 ∷ []) 1 1104
    ∷ stands_by 1000 (buy 5 999001 ∷ stepper_buy 7 1000000 4 ∷ []) 1 1000000
    ∷ stands_by 4 (sell 5 5 ∷ stepper_sell 7 1 4 ∷ []) 1 1
    ∷ stands_by 5 (sell 5 5 ∷ stepper_sell 7 2 4 ∷ []) 1 2
    ∷ stands_by 1000 (sell 5 5 ∷ stepper_sell 7 3 4 ∷ []) 1 3
    -- rivals outside the band: by a short step the Stepper stands at the bound, by a long one inside the band
    ∷ stands_by 3 (buy 5 70 ∷ stepper_buy 7 108 4 ∷ []) 1 90
    ∷ stands_by 25 (buy 5 70 ∷ stepper_buy 7 108 4 ∷ []) 1 95
    ∷ stands_by 3 (sell 5 130 ∷ stepper_sell 7 92 4 ∷ []) 1 110
    ∷ stands_by 25 (sell 5 130 ∷ stepper_sell 7 92 4 ∷ []) 1 105
    -- P9 with a sell: by a step of 4 the Stepper stands at 105, before order 0, and gets the pieces; by 1 order 0 would
    ∷ case (opening (sheet_with (word 0 4) (buy 5 104 ∷ buy 3 101 ∷ stepper_buy 4 108 5 ∷ sell 4 95 ∷ [])) 41)
    (gives (together (run 0 104 104 4 (0 ∷ 0 ∷ 4 ∷ 4 ∷ []) ∷ run 2 104 0 0 (0 ∷ 0 ∷ 0 ∷ 0 ∷ []) ∷ []) ++ (0xf0000002 ∷ [])))
    ∷ case (curves_at (sheet_with (word 0 4) (buy 5 104 ∷ buy 3 101 ∷ stepper_buy 4 108 5 ∷ sell 4 95 ∷ [])) 105) (gives (4 ∷ 4 ∷ 4 ∷ []))
    -- both ends of the range, and beyond them; a kind other than 0
    ∷ case (check (sheet_with (word 0 1) [])) (gives [])
    ∷ case (check (sheet_with (word 0 1000) (buy 4 95 ∷ []))) (gives [])
    ∷ case (check (sheet_with (word 0 0) (buy 4 95 ∷ []))) (refuses 17 0)
    ∷ case (check (sheet_with (word 0 1001) [])) (refuses 17 0)
    ∷ case (check (sheet_with (word 1 1) [])) (refuses 17 0)
    -- a word too many: the first order's first word is where a step word would be
    ∷ case (check (listing ++ (0x90000000 ∷ []))) (refuses 17 0)
    -- I at H comes before the step word; the step word before the number of orders, 121
    ∷ case (check (0x1000005a ∷ 0x2000006e ∷ 0x30000064 ∷ 0x4000006e ∷ 0x50000000 ∷ 0 ∷ [])) (refuses 15 0)
    ∷ case (check (heading 121 ++ (word 0 0 ∷ replicate 363 0))) (refuses 17 0)
    ∷ case (check (heading 121 ++ (word 0 1 ∷ replicate 363 0))) (refuses 4 0)
    -- two orders behind a step word, the second at fault; a step word and one order that lacks its last word, which is as long as a
    -- plain sheet, so that order 0 begins with the step word
    ∷ case (check (sheet_with (word 0 7) (buy 4 95 ∷ sell 0 95 ∷ []))) (refuses 7 1)
    ∷ case (check (heading 1 ++ (word 0 7 ∷ word 6 95 ∷ word 8 4 ∷ []))) (refuses 5 0)
    ∷ []

-- ---- Stored results, worked out by hand

-- [12.4d] A call on a stored result, and the answer that it has to get.
pub record StoredCase : Type 0 where
  pub call : StoredCall
  pub expected : StoredAnswer

abbrev pub stored_case : StoredCall → StoredAnswer → StoredCase
stored_case c d = record { call = c; expected = d }

abbrev pub AllOpen : List StoredCase → Type 0
AllOpen = Each (λ c. stored_answer c.call ≡ c.expected)

-- [12.4d] Cases of stored results, mostly of the listing's: two rounds of 6 words, and a last word.
unfoldable pub stored_cases : List StoredCase
stored_cases =
    -- it opens, and each round is read; its fill words are two, from word 4 and from word 10 on
    stored_case (open_stored listing listing_result) (answers (gives []))
    ∷ stored_case (stored_round listing listing_result 0) (answers (gives (0 ∷ 105 ∷ 105 ∷ 4 ∷ 4 ∷ 2 ∷ [])))
    ∷ stored_case (stored_round listing listing_result 1) (answers (gives (2 ∷ 105 ∷ 0 ∷ 0 ∷ 10 ∷ 2 ∷ [])))
    -- past the last round
    ∷ stored_case (stored_round listing listing_result 2) (answers (refuses 9 0))
    -- another first word, another fill, another last word
    ∷ stored_case (open_stored listing (set listing_result 0 0xa0000001)) (differs 0)
    ∷ stored_case (open_stored listing (set listing_result 5 0xe0000005)) (differs 5)
    ∷ stored_case (open_stored listing (set listing_result 12 0xf0000003)) (differs 12)
    -- no words, the last word missing, one word too many
    ∷ stored_case (open_stored listing []) (differs 0)
    ∷ stored_case (open_stored listing (take 12 listing_result)) (differs 12)
    ∷ stored_case (open_stored listing (listing_result ++ (0xf0000002 ∷ []))) (differs 13)
    -- P3's result beside P1's sheet
    ∷ stored_case (open_stored listing (run 0 80 90 5 (5 ∷ 0 ∷ 5 ∷ []) ++ (0xf0020001 ∷ []))) (differs 1)
    -- a difference comes before the number of the round, the sheet's faults before both
    ∷ stored_case (stored_round listing (take 12 listing_result) 7) (differs 12)
    ∷ stored_case (open_stored (sheet (buy 4 95 ∷ sell 0 95 ∷ [])) listing_result) (answers (refuses 7 1))
    ∷ stored_case (stored_round (sheet (buy 4 95 ∷ sell 0 95 ∷ [])) [] 7) (answers (refuses 7 1))
    -- no orders: one round, with no fill words
    ∷ stored_case (stored_round (sheet []) (run 4 100 0 0 [] ++ (0xf0000001 ∷ [])) 0) (answers (gives (4 ∷ 100 ∷ 0 ∷ 0 ∷ 4 ∷ 0 ∷ [])))
    ∷ stored_case (stored_round (sheet []) (run 4 100 0 0 [] ++ (0xf0000001 ∷ [])) 1) (answers (refuses 9 0))
    ∷ []

-- ---- What the words of the listing's result say

-- [12.5] The words of the listing's result, read.
pub record ListingSaid : Type 0 where
  -- they are of two rounds; in the first both orders get 4 pieces at 105
  pub rounds : rounds_in listing listing_result ≡ 2
  pub first : round_said listing listing_result 0
      ≡ record { situation = 0; price = 105; purchase = 105; total = 4; fills = 4 ∷ 4 ∷ [] }
  -- the second starts from what it left
  pub second : start_said listing listing_result 1 ≡ record { last = 105; remaining = 6 ∷ 0 ∷ [] }
  -- over the opening order 0 gets 4 pieces, and 4 are bought
  pub pieces : pieces_over listing listing_result 0 ≡ 4
  pub bought : traded_over Buy listing listing_result ≡ 4
  -- the page of the second round; a view of no words has none, whatever the number of orders
  pub second_page : page 2 listing_result 1 ≡ gives (2 ∷ 105 ∷ 0 ∷ 0 ∷ [])
  pub no_page : page 2 [] 0 ≡ refuses 9 0
  -- by 35 ten-thousandths both orders pay 15 hellers; where the call refuses there are no fees
  pub fees : fees_given (tariff_of 35 0 100) listing (gives listing_result) ≡ gives (15 ∷ 15 ∷ [])
  pub no_fees : fees_given (tariff_of 35 0 100) listing (refuses 10 0) ≡ refuses 10 0

-- ---- The program's text

-- [12.6] Bytes that the opening program reads, and the text that it prints.
pub record Printing : Type 0 where
  pub bytes : List ℕ
  pub text : String

abbrev pub prints : List ℕ → String → Printing
prints bytes text = record { bytes = bytes; text = text }

abbrev pub AllPrint : List Printing → Type 0
AllPrint = Each (λ p. printed p.bytes ≡ ascii p.text)

-- [12.6] The bytes of the listing's sheet.
abbrev pub listing_bytes : List ℕ
listing_bytes =
    0x10 ∷ 0x00 ∷ 0x00 ∷ 0x5a
    ∷ 0x20 ∷ 0x00 ∷ 0x00 ∷ 0x6e
    ∷ 0x30 ∷ 0x00 ∷ 0x00 ∷ 0x64
    ∷ 0x40 ∷ 0x00 ∷ 0x00 ∷ 0x64
    ∷ 0x50 ∷ 0x00 ∷ 0x00 ∷ 0x02
    ∷ 0x60 ∷ 0x00 ∷ 0x00 ∷ 0x69
    ∷ 0x80 ∷ 0x00 ∷ 0x00 ∷ 0x0a
    ∷ 0x90 ∷ 0x00 ∷ 0x00 ∷ 0x00
    ∷ 0x70 ∷ 0x00 ∷ 0x00 ∷ 0x5f
    ∷ 0x80 ∷ 0x00 ∷ 0x00 ∷ 0x04
    ∷ 0x90 ∷ 0x00 ∷ 0x00 ∷ 0x00
    ∷ []

-- [12.6] The listing, and refusals.
unfoldable pub printings : List Printing
printings =
    -- the listing
    prints listing_bytes "a0000000\nb0000069\nc0000069\nd0000004\ne0000004\ne0000004\na0000002\nb0000069\nc0000000\nd0000000\ne0000000\ne0000000\nf0000002\n"
    -- no input at all, a byte, 1,464 bytes and 1,468
    ∷ prints [] "refused 1 0\n"
    ∷ prints (16 ∷ []) "refused 12 0\n"
    ∷ prints (replicate 1464 0) "refused 2 0\n"
    ∷ prints (replicate 1468 0) "refused 12 0\n"
    -- a wrong kind in the listing's order 1
    ∷ prints (set listing_bytes 32 0x50) "refused 5 1\n"
    ∷ []

-- ---- The archive program's text

-- [12.7] Bytes of a sheet, the text of a stored result, and the text that the archive program prints.
pub record Archiving : Type 0 where
  pub bytes : List ℕ
  pub result : String
  pub text : String

abbrev pub archives : List ℕ → String → String → Archiving
archives bytes result text = record { bytes = bytes; result = result; text = text }

abbrev pub AllArchive : List Archiving → Type 0
AllArchive = Each (λ a. archived a.bytes (ascii a.result) ≡ ascii a.text)

-- [12.7] The listing's result, round by round; without its last line; one with a line too short; and a sheet that is refused.
unfoldable pub archivings : List Archiving
archivings =
    archives listing_bytes
    "a0000000\nb0000069\nc0000069\nd0000004\ne0000004\ne0000004\na0000002\nb0000069\nc0000000\nd0000000\ne0000000\ne0000000\nf0000002\n"
    "The stored words are those that the opening of this sheet writes.\nOrders: 2. Rounds: 2. Both are numbered from 0.\nPrices count tens of hellers, and the band is from 90 to 110.\nTotals, and what an order buys or sells, are pieces; an order that gets none in a round has no line there.\n\nRound 0\nSituation 0: demand and supply meet at some price.\nAuction price: 105, or 10.50 crowns.\nPurchase price: 105, or 10.50 crowns.\nTotal: 4.\nOrder 0 buys 4.\nOrder 1 sells 4.\n\nRound 1\nSituation 2: the band has demand alone.\nAuction price: 105, or 10.50 crowns.\nPurchase price: none.\nTotal: 0.\n\nEnding 0: in the last round demand and supply met at no price.\n"
    ∷ archives listing_bytes
    "a0000000\nb0000069\nc0000069\nd0000004\ne0000004\ne0000004\na0000002\nb0000069\nc0000000\nd0000000\ne0000000\ne0000000\n"
    "The stored words are not those that the opening of this sheet writes by the rules of this edition.\nThe first difference is at word 12, counted from 0: line 13 of the result, or its end.\n"
    ∷ archives listing_bytes "a000000\nb0000069\n" "The result is not as the opening program prints one: lines of eight digits, 0 to 9 or a to f, each ended by a newline, at most 15005.\n"
    ∷ archives (0x10 ∷ []) "a000000" "refused 12 0\n"
    ∷ []
