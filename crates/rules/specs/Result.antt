-- Clauses 8.1–8.4 of docs/RULES.md: what the words of a result say. A reader holds a sheet ws and the result words rs
-- of its opening; all that a round started from follows from these two lists.
use Rattle.std.specs.Prelude.{List, ℕ, zero, suc, ◌+◌, ◌*◌, ◌/◌, length}
use Rattle.rules.specs.AuctionPrice.{Auction}
use Rattle.rules.specs.Fills.{fill_of, total}
use Rattle.rules.specs.Limits.{standing}
use Rattle.rules.specs.Lists.{listed, sum_to}
use Rattle.rules.specs.Opening.{Start, Round, first_start, after}
use Rattle.rules.specs.Sheet.{heading_of, orders_of}
use Rattle.rules.specs.Words.{word_at}
use Rattle.rules.specs.declared.Side.{Side}
use Rattle.rules.specs.declared.Standing.{Standing}

-- ---- A round

-- [8.1] The number of orders n.
abbrev pub count : List ℕ → ℕ
count ws = (heading_of ws).count

-- [8.1] The number of rounds in the words rs of a result of n orders: each has 4 + n words, and one word more ends the result.
abbrev pub rounds_for : ℕ → List ℕ → ℕ
rounds_for n rs = length rs / (n + 4)

abbrev pub rounds_in : List ℕ → List ℕ → ℕ
rounds_in ws rs = rounds_for (count ws) rs

-- [8.1] The place of word j of round r.
abbrev pub word_place_for : ℕ → ℕ → ℕ → ℕ
word_place_for n r j = r * (n + 4) + j

abbrev pub word_place : List ℕ → ℕ → ℕ → ℕ
word_place ws r j = word_place_for (count ws) r j

-- [8.2] Round r of n orders, as its words say it.
abbrev pub round_said_for : ℕ → List ℕ → ℕ → Round
round_said_for n rs r = record {
  situation = (word_at rs (word_place_for n r 0)).value;
  price = (word_at rs (word_place_for n r 1)).value;
  purchase = (word_at rs (word_place_for n r 2)).value;
  total = (word_at rs (word_place_for n r 3)).value;
  fills = listed (λ k. (word_at rs (word_place_for n r (4 + k))).value) n;
}

unfoldable pub round_said : List ℕ → List ℕ → ℕ → Round
round_said ws rs r = round_said_for (count ws) rs r

-- [8.2] The auction that a round reports.
abbrev pub auction_in : Round → Auction
auction_in x = record { situation = x.situation; price = x.price }

-- [8.3] What round r starts from.
unfoldable pub start_said : List ℕ → List ℕ → ℕ → Start
start_said ws rs zero = first_start ws
start_said ws rs (suc r) = after (start_said ws rs r) (round_said ws rs r)

-- [8.3] The orders of round r at their limits in force.
unfoldable pub standing_said : List ℕ → List ℕ → ℕ → List Standing
standing_said ws rs r = standing (heading_of ws) (orders_of ws) (start_said ws rs r).remaining

-- ---- The opening

-- [8.4] The pieces that order k gets over the opening.
abbrev pub pieces_over : List ℕ → List ℕ → ℕ → ℕ
pieces_over ws rs k = sum_to (λ r. fill_of (round_said ws rs r).fills k) (rounds_in ws rs)

-- [8.4] What a side trades over the opening: of the buys what is bought, of the sells what is sold.
abbrev pub traded_over : Side → List ℕ → List ℕ → ℕ
traded_over s ws rs = sum_to (λ r. total s (standing_said ws rs r) (round_said ws rs r).fills) (rounds_in ws rs)
