-- Clauses 13.7, 13.9 and 13.11 of docs/RULES.md: what the three calls that write promise, the answer, the space and the
-- fee list by the rules, and what is claimed of the words that stand there.
use Rattle.std.specs.Prelude.{true, List, ◌≡◌, ℕ, ◌≤◌, length}
use Rattle.claims.specs.Demand3.{Demand3}
use Rattle.claims.specs.Fills.{Largest}
use Rattle.rules.specs.Answers.{Answer}
use Rattle.rules.specs.Calls.{first_round, opening, opening_fees, first_standing, answer, space_after, Writes, words_given, fees_given}
use Rattle.rules.specs.Fees.{tariff_stands}
use Rattle.rules.specs.Opening.{round_space, opening_space}
use Rattle.rules.specs.Result.{count, round_said, auction_in}
use Rattle.rules.specs.Sheet.{heading_of, AcceptedSheet}
use Rattle.rules.specs.declared.Tariff.{Tariff}

-- [13.7] What the first round of the sheet ws promises; `first_round ws space` is the call as the rules have it (10.1).
pub record FirstRound (ws before after : List ℕ) (answered : Answer) : Type 0 where
  pub writes : Writes (first_round ws (length before)) before after answered
  -- where the sheet is accepted and the space has the words, the fills that stand in the space meet F1–F4, and every other list of n
  -- fills that meets them has a smaller total
  pub filled : AcceptedSheet ws → round_space (count ws) ≤ length before
      → Largest (heading_of ws) (auction_in (round_said ws after 0)) (first_standing ws) (round_said ws after 0).fills

-- [13.9] What the opening of the sheet ws promises; `opening ws space` is the call as the rules have it (10.1).
pub record Opened (ws before after : List ℕ) (answered : Answer) : Type 0 where
  pub writes : Writes (opening ws (length before)) before after answered
  -- where the sheet is accepted and the space has the words, demand 3 holds of the sheet's words and the words given
  pub demand3 : AcceptedSheet ws → opening_space (count ws) ≤ length before → Demand3 ws (words_given answered)

-- [13.11] What the opening of the sheet ws with fees by the tariff t promises, of the space and of the lent fee list.
pub record OpenedWithFees (ws : List ℕ) (t : Tariff) (before after list listAfter : List ℕ) (answered : Answer) : Type 0 where
  pub writes : Writes (opening_fees ws t (length before) (length list)) before after answered
  -- the list holds the fees on the words given, and beyond them what it held; a refusal writes no fee
  pub charges : listAfter ≡ space_after (fees_given t ws (answer (opening_fees ws t (length before) (length list)))) list
  -- where the tariff stands and each order has a place, all that the opening promises is promised too
  pub opened : tariff_stands t ≡ true → count ws ≤ length list → Opened ws before after answered
