-- `read_heading` meets its contract: each test is a row of the heading's table, in the same order. The words read are those of the
-- sheet, so the heading is the sheet's; the rows passed so far are the first of the table, and the next row stops behind them or joins them.
use mathlib.Core.Bool.{Bool, false}
use mathlib.Core.List.{List}
use mathlib.Core.Path.{◌≡◌, ap}
use Prim.Native.Nat.{ℕ}
use lib.ListN.{length, take}
use Rattle.rules.specs.Sheet.{step_word, heading_of, heading_checks}
use Rattle.rules.proofs.Downwards.{Clear, here, passed, nothing_left, clear_append, stops_after, says_nothing, says_refused}
use borrow.Author.Rules.{rules}
use Rattle.rules.proofs.Tests.{tests}
use Rattle.sheet.specs.Steps.{heading_words_of, step_word_read, wrong_kinds, wrong_prices, wrong_band, wrong_step, wrong_length}
use Rattle.words.specs.declared.cursor.Step.{Step}
use Rattle.sheet.proofs.Laws.{headed, said_of}
use Rattle.sheet.proofs.heading.read_heading.Goals as goal
use Rattle.sheet.proofs.heading.read_heading.Goals.{After-wrong_length-length}

pub returns-then-words-lt-HEADING_WORDS : goal.returns-then-words-lt-HEADING_WORDS
unfolding heading_checks
returns-then-words-lt-HEADING_WORDS c = says_refused _ (here (search tests))

-- what was read before the first test, and the rows of the table by what the tests said
module _ (c : After-wrong_length-length) where
  abbrev words : List ℕ
  words = c.args.words.now

  five : c.read_heading_words-five.result ≡ heading_words_of words
  five = c.read_heading_words-five.ensures

  sixth : c.read_step_word-sixth.result ≡ step_word_read words
  sixth = c.read_step_word-sixth.ensures

  said : c.read_step_word-sixth.result.word ≡ step_word words
  said = ap (λ (s : Step). s.word) sixth

  heading : c.heading_from-heading.result ≡ heading_of words
  heading = headed words five said c.heading_from-heading.ensures

  kinds : {r : Bool} → c.wrong_kinds-kinds.result ≡ r → wrong_kinds (heading_words_of words) ≡ r
  kinds out = said_of wrong_kinds five c.wrong_kinds-kinds.ensures out

  prices : {r : Bool} → c.wrong_prices-prices.result ≡ r → wrong_prices (heading_of words) ≡ r
  prices out = said_of wrong_prices heading c.wrong_prices-prices.ensures out

  band : {r : Bool} → c.wrong_band-band.result ≡ r → wrong_band (heading_of words) ≡ r
  band out = said_of wrong_band heading c.wrong_band-band.ensures out

  step : {r : Bool} → c.wrong_step-step.result ≡ r → wrong_step (step_word words) ≡ r
  step out = said_of wrong_step said c.wrong_step-step.ensures out

  lengths : {r : Bool} → c.wrong_length-length.result ≡ r → wrong_length (length words) (heading_of words) ≡ r
  lengths out = said_of (wrong_length (length words)) heading c.wrong_length-length.ensures out

  -- the first k rows do not arise
  abbrev Passed : ℕ → Type 0
  Passed k = Clear (take k (heading_checks words))

  one-row : Passed 1
  unfolding heading_checks
  one-row = passed (search tests) nothing_left

  two_rows : c.wrong_kinds-kinds.result ≡ false → Passed 2
  unfolding heading_checks
  two_rows k = clear_append one-row (passed (kinds k) nothing_left)

  three_rows : c.wrong_kinds-kinds.result ≡ false → c.wrong_prices-prices.result ≡ false → Passed 3
  unfolding heading_checks
  three_rows k p = clear_append (two_rows k) (passed (prices p) nothing_left)

  four_rows : c.wrong_kinds-kinds.result ≡ false → c.wrong_prices-prices.result ≡ false → c.wrong_band-band.result ≡ false → Passed 4
  unfolding heading_checks
  four_rows k p b = clear_append (three_rows k p) (passed (band b) nothing_left)

  five_rows : c.wrong_kinds-kinds.result ≡ false → c.wrong_prices-prices.result ≡ false → c.wrong_band-band.result ≡ false
      → c.wrong_step-step.result ≡ false → Passed 5
  unfolding heading_checks
  five_rows k p b s = clear_append (four_rows k p b) (passed (step s) nothing_left)

pub returns-then-kinds : goal.returns-then-kinds
unfolding heading_checks
returns-then-kinds c =
    let all = (goal.at.returns-then-kinds c).After-wrong_length-length in
    says_refused _ (stops_after (one-row all) (here (kinds all c.if-kinds.true)))

pub returns-then-prices : goal.returns-then-prices
unfolding heading_checks
returns-then-prices c =
    let all = (goal.at.returns-then-prices c).After-wrong_length-length in
    says_refused _ (stops_after (two_rows all (search rules)) (here (prices all c.if-prices.true)))

pub returns-then-band : goal.returns-then-band
unfolding heading_checks
returns-then-band c =
    let all = (goal.at.returns-then-band c).After-wrong_length-length in
    says_refused _ (stops_after (three_rows all (search rules) (search rules)) (here (band all c.if-band.true)))

pub returns-then-step : goal.returns-then-step
unfolding heading_checks
returns-then-step c =
    let all = (goal.at.returns-then-step c).After-wrong_length-length in
    says_refused _ (stops_after (four_rows all (search rules) (search rules) (search rules)) (here (step all c.if-step.true)))

pub returns-then-length : goal.returns-then-length
unfolding heading_checks
returns-then-length c =
    let all = (goal.at.returns-then-length c).After-wrong_length-length in
    says_refused _
    (stops_after (five_rows all (search rules) (search rules) (search rules) (search rules)) (here (lengths all c.if-length.true)))

pub returns : goal.returns
unfolding heading_checks
returns c =
    let all = (goal.at.returns c).After-wrong_length-length in
    let rows = five_rows all (search rules) (search rules) (search rules) (search rules) in (
      says_nothing _ (clear_append rows (passed (lengths all c.if-length.false) nothing_left)),
      heading all,
      ap (λ (s : Step). s.next.at) (sixth all),
    )
