-- Every case of the table holds. What the rules answer is worked out by the limits alone; a test of two answers is computed
-- once over the whole table, and what it tells of each case is shown once for any table.
use mathlib.Core.Bool.{Bool, true, false, ◌&&◌, false≢true}
use mathlib.Core.List.{List, [], ◌∷◌}
use mathlib.Core.Path.{◌≡◌, refl, ap, ◌∙◌, fun_ext}
use Prim.Native.Nat.{ℕ}
use lib.Dec.{eqb}
use lib.ListN.{take}
use borrow.Author.Tests.{eqb-true}
use Rattle.rules.proofs.Ends.{limit_ends, level_ends}
use Rattle.rules.proofs.Grid.{both}
use Rattle.rules.proofs.Quick.{quick_round, quick_answer, quick_answer_lem}
use Rattle.rules.specs.Answers.{Answer, gives, refuses, downwards}
use Rattle.rules.specs.AuctionPrice.{level, uncrossed, auction_by}
use Rattle.rules.specs.Band.{band_stands, indicative_price, next_upper, next_lower, next_band_for, percent_of, next_band, widened_upper, widened_lower, widened_for, widened_band}
use Rattle.rules.specs.Calls.{Call, answer_by, answer, words_given}
use Rattle.rules.specs.Cases.{Case, AllHold, document_cases, further_cases, waiting_cases, fee_cases, step_cases, StoredCase, AllOpen, stored_cases, AllCharge, charges, listing, listing_result, ListingSaid, AllPrint, printings, AllArchive, archivings}
use Rattle.rules.specs.Fees.{tariff_stands, fill_fee, order_fee, trade_said, fees_on}
use Rattle.rules.specs.Fills.{eligible, first_of, total, offered, ahead, share, reaches, largest_total, fills_of}
use Rattle.rules.specs.Grid.{on_grid, moved_into}
use Rattle.rules.specs.Limits.{standing, pieces_at, entered_limit, entered, stepped, limit_in_force, standing_by}
use Rattle.rules.specs.Listing.{input_fits, word_in, sheet_in, word_line, word_lines, figures_in, figures, refusal_line, printed_answer, program_answer}
use Rattle.rules.specs.Lists.{listed, joined_to, sum_to, every_to, largest_to}
use Rattle.rules.specs.Opening.{settled, first_start, after, goes_on, ending_after, rounds_from, round_words, rounds_words, ending_of, result_words, opening_by, opening_words}
use Rattle.rules.specs.Pages.{digit_value, line_fits, listing_fits, word_on, result_in, price_text, purchase_text, situation_means, order_line, order_text, summary_text, round_text, ending_means, head_text, opened_text, different_text, stored_text, archived}
use Rattle.rules.specs.Result.{round_said, start_said, standing_said}
use Rattle.rules.specs.Sheet.{layout_for, step_word, heading_kinds, heading_from, heading_of, prices_on_grid, band_encloses, step_allowed, length_fits, order_kinds, terms_allowed, quantity_allowed, ignored_allowed, side_of, terms_of, order_from, order_at, orders_of, heading_checks, order_checks, orders_checks, sheet_checks, check_sheet}
use Rattle.rules.specs.Stored.{first_difference, StoredAnswer, answers, differs, page, stored_by, stored_answer}
use Rattle.rules.specs.Waiting.{waiting_word, after_outside, after_inside, time_is_up, after_time, after_second, after_word, waiting_checks, followed, waiting_clock}

-- a test of two answers, and what it tells
unfoldable pub same_numbers : List ℕ → List ℕ → Bool
same_numbers [] [] = true
same_numbers [] (y ∷ ys) = false
same_numbers (x ∷ xs) [] = false
same_numbers (x ∷ xs) (y ∷ ys) = eqb x y && same_numbers xs ys

unfoldable pub same : Answer → Answer → Bool
same (gives vs) (gives ws) = same_numbers vs ws
same (gives vs) (refuses m l) = false
same (refuses n k) (gives ws) = false
same (refuses n k) (refuses m l) = eqb n m && eqb k l

same_numbers_lem : (xs ys : List ℕ) → same_numbers xs ys ≡ true → xs ≡ ys
unfolding same_numbers
same_numbers_lem [] [] e = refl
same_numbers_lem [] (y ∷ ys) e = absurd (false≢true e)
same_numbers_lem (x ∷ xs) [] e = absurd (false≢true e)
same_numbers_lem (x ∷ xs) (y ∷ ys) e =
    let t = both {a = eqb x y} e in
    rw (eqb-true x y t.0, same_numbers_lem xs ys t.1)

same_answer : (a b : Answer) → same a b ≡ true → a ≡ b
unfolding same
same_answer (gives vs) (gives ws) e = ap gives (same_numbers_lem vs ws e)
same_answer (gives vs) (refuses m l) e = absurd (false≢true e)
same_answer (refuses n k) (gives ws) e = absurd (false≢true e)
same_answer (refuses n k) (refuses m l) e = let t = both {a = eqb n m} e in rw (eqb-true n m t.0, eqb-true k l t.1)

-- the test over a whole table
unfoldable pub all_same : List Case → Bool
all_same [] = true
all_same (c ∷ cs) = same (quick_answer c.call) c.expected && all_same cs

pub all_same_lem : (cs : List Case) → all_same cs ≡ true → AllHold cs
unfolding all_same
all_same_lem [] e = tt
all_same_lem (c ∷ cs) e =
    let t = both {a = same (quick_answer c.call) c.expected} e in
    (quick_answer_lem c.call ∙ same_answer (quick_answer c.call) c.expected t.0, all_same_lem cs t.1)

-- P1–P12 hold, and so do the further cases, those of the waiting clock, of fees and of the step
pub cases_hold : AllHold document_cases × AllHold further_cases × AllHold waiting_cases × AllHold fee_cases × AllHold step_cases
unfolding all_same same same_numbers document_cases further_cases waiting_cases fee_cases step_cases quick_answer quick_round limit_ends level_ends answer_by downwards layout_for step_word heading_kinds heading_from heading_of prices_on_grid band_encloses step_allowed length_fits order_kinds terms_allowed quantity_allowed ignored_allowed side_of terms_of order_from order_at orders_of heading_checks order_checks orders_checks sheet_checks check_sheet on_grid moved_into listed sum_to every_to largest_to pieces_at entered_limit entered stepped limit_in_force standing_by level uncrossed auction_by eligible first_of total offered ahead share reaches largest_total fills_of settled first_start after goes_on ending_after rounds_from round_words rounds_words ending_of result_words opening_by band_stands indicative_price next_upper next_lower next_band_for percent_of next_band widened_upper widened_lower widened_for widened_band waiting_word after_outside after_inside time_is_up after_time after_second after_word waiting_checks followed waiting_clock tariff_stands
cases_hold = (
  all_same_lem document_cases refl,
  all_same_lem further_cases refl,
  all_same_lem waiting_cases refl,
  all_same_lem fee_cases refl,
  all_same_lem step_cases refl,
)

-- the same of the calls on a stored result
unfoldable pub same_stored : StoredAnswer → StoredAnswer → Bool
same_stored (answers a) (answers b) = same a b
same_stored (answers a) (differs q) = false
same_stored (differs p) (answers b) = false
same_stored (differs p) (differs q) = eqb p q

same_stored_lem : (a b : StoredAnswer) → same_stored a b ≡ true → a ≡ b
unfolding same_stored
same_stored_lem (answers a) (answers b) e = ap answers (same_answer a b e)
same_stored_lem (answers a) (differs q) e = absurd (false≢true e)
same_stored_lem (differs p) (answers b) e = absurd (false≢true e)
same_stored_lem (differs p) (differs q) e = ap differs (eqb-true p q e)

unfoldable pub all_stored : List StoredCase → Bool
all_stored [] = true
all_stored (c ∷ cs) = same_stored (stored_by quick_answer c.call) c.expected && all_stored cs

pub all_stored_lem : (cs : List StoredCase) → all_stored cs ≡ true → AllOpen cs
unfolding all_stored stored_answer
all_stored_lem [] e = tt
all_stored_lem (c ∷ cs) e =
    let t = both {a = same_stored (stored_by quick_answer c.call) c.expected} e in
    (ap (λ (by : Call → Answer). stored_by by c.call) (fun_ext quick_answer_lem) ∙ same_stored_lem (stored_by quick_answer c.call) c.expected t.0, all_stored_lem cs t.1)

pub stored_hold : AllOpen stored_cases
unfolding all_stored same_stored same same_numbers stored_cases stored_by first_difference quick_answer quick_round limit_ends level_ends answer_by downwards layout_for step_word heading_kinds heading_from heading_of prices_on_grid band_encloses step_allowed length_fits order_kinds terms_allowed quantity_allowed ignored_allowed side_of terms_of order_from order_at orders_of heading_checks order_checks orders_checks sheet_checks check_sheet on_grid moved_into listed sum_to every_to largest_to pieces_at entered_limit entered stepped limit_in_force standing_by level uncrossed auction_by eligible first_of total offered ahead share reaches largest_total fills_of settled first_start after goes_on ending_after rounds_from round_words rounds_words ending_of result_words opening_by
stored_hold = all_stored_lem stored_cases refl

-- the fees on results are those of the table
pub charges_hold : AllCharge charges
unfolding charges fees_on order_fee fill_fee trade_said round_said moved_into heading_from heading_of listed sum_to
charges_hold =
    (refl, (refl, (refl, (refl, (refl, (refl, (refl, (refl, (refl, (refl, (refl, (refl, (refl, (refl, (refl, (refl, (refl, tt)))))))))))))))))

-- what the listing's words say
pub listing_said : ListingSaid
unfolding page downwards round_said start_said standing_said standing standing_by total after first_start layout_for heading_from heading_of side_of terms_of order_from order_at orders_of listed sum_to fees_on order_fee fill_fee trade_said moved_into
listing_said =
    record { rounds = refl; first = refl; second = refl; pieces = refl; bought = refl; second_page = refl; no_page = refl; fees = refl; no_fees = refl }

-- ---- The program's text

-- what P1 says of the words of the listing's opening
listing_opened : opening_words listing ≡ listing_result
unfolding opening_words answer answer_by downwards document_cases layout_for step_word heading_kinds heading_from heading_of prices_on_grid band_encloses step_allowed length_fits order_kinds terms_allowed quantity_allowed ignored_allowed heading_checks order_checks orders_checks sheet_checks on_grid listed
listing_opened = ap words_given cases_hold.0.0

-- the program prints the listing, and the refusals
pub printings_hold : AllPrint printings
unfolding printings program_answer input_fits sheet_in word_in printed_answer word_lines word_line refusal_line figures figures_in downwards layout_for step_word heading_kinds heading_from heading_of prices_on_grid band_encloses step_allowed length_fits order_kinds terms_allowed quantity_allowed ignored_allowed heading_checks order_checks orders_checks sheet_checks on_grid listed
printings_hold = (ap word_lines listing_opened, (refl, (refl, (refl, (refl, (refl, tt))))))

-- the archive program's text
pub archivings_hold : AllArchive archivings
unfolding archivings stored_cases archived input_fits sheet_in word_in listing_fits line_fits digit_value word_on result_in refusal_line figures figures_in head_text opened_text different_text round_text summary_text order_text order_line situation_means ending_means price_text purchase_text round_said joined_to every_to downwards layout_for step_word heading_kinds heading_from heading_of side_of terms_of order_from order_at orders_of prices_on_grid band_encloses step_allowed length_fits order_kinds terms_allowed quantity_allowed ignored_allowed heading_checks order_checks orders_checks sheet_checks on_grid listed
archivings_hold = (
  ap (stored_text listing listing_result) stored_hold.0,
  (ap (stored_text listing (take 12 listing_result)) stored_hold.1.1.1.1.1.1.1.1.0, (refl, (refl, tt))),
)
