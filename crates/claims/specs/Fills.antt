-- Clauses 13.1 and 13.2 of docs/RULES.md: F1–F4 for any list of fills, and the fills that are meant, those that meet
-- them with the largest total. The orders os stand at their limits in force, and a is the auction of the round.
use Rattle.std.specs.Prelude.{true, List, ◌⊎◌, ◌≢◌, ◌≡◌, ℕ, ◌≤◌, ◌<◌, length}
use Rattle.rules.specs.AuctionPrice.{Auction}
use Rattle.rules.specs.Fills.{eligible, ranked_before, fill_of, total}
use Rattle.rules.specs.Limits.{numbered}
use Rattle.rules.specs.declared.Heading.{Heading}
use Rattle.rules.specs.declared.Side.TheVariants.{Buy, Sell}
use Rattle.rules.specs.declared.Standing.{Standing}

-- [13.1] The order gets all that remains of it.
abbrev pub FilledCompletely : List Standing → List ℕ → ℕ → Type 0
FilledCompletely os fills k = fill_of fills k ≡ (numbered os k).remaining.0

-- [13.1] A list of fills meets F1–F4.
pub record Lawful (h : Heading) (a : Auction) (os : List Standing) (fills : List ℕ) : Type 0 where
  -- F1: who gets pieces is eligible,
  pub F1-eligible : (k : ℕ) → k < length os → 0 < fill_of fills k → eligible h a (numbered os k) ≡ true
  -- and gets no more than remains of it.
  pub F1-within : (k : ℕ) → k < length os → fill_of fills k ≤ (numbered os k).remaining.0
  -- F2: where one is not filled completely, the eligible orders ranked after it on its side get nothing.
  pub F2 : (above k : ℕ) → above < length os → k < length os → eligible h a (numbered os k) ≡ true
      → ranked_before h os above k ≡ true → (FilledCompletely os fills above → ⊥) → fill_of fills k ≡ 0
  -- F3: all-or-none is all that remains of the order, or nothing.
  pub F3 : (k : ℕ) → k < length os → (numbered os k).all_or_none ≡ true
      → FilledCompletely os fills k ⊎ (fill_of fills k ≡ 0)
  -- F4: as much is bought as sold.
  pub F4 : total Buy os fills ≡ total Sell os fills

-- [13.2] The list has a number for each order and meets F1–F4; every other such list has a smaller total.
pub record Largest (h : Heading) (a : Auction) (os : List Standing) (fills : List ℕ) : Type 0 where
  pub each : length fills ≡ length os
  pub lawful : Lawful h a os fills
  pub largest : (other : List ℕ) → length other ≡ length os → Lawful h a os other → other ≢ fills
      → total Buy os other < total Buy os fills
