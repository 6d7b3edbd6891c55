-- Clause 13.8 of docs/RULES.md: demand 3, one claim about a sheet ws and all the words rs of its result. Nothing else
-- appears in it: what a round starts from comes from these two lists (clause 8.3).
use Rattle.std.specs.Prelude.{Bool, true, false, not, List, ◌≡◌, ℕ, suc, ◌+◌, ◌-◌, ◌*◌, ◌≤◌, ◌<◌, length, get_or}
use Rattle.claims.specs.Fills.{Largest}
use Rattle.claims.specs.Price.{BestPrice}
use Rattle.rules.specs.AuctionPrice.{carries, Auction, auction}
use Rattle.rules.specs.Fills.{fill_of, total, purchase_price}
use Rattle.rules.specs.Grid.{on_grid}
use Rattle.rules.specs.Limits.{allows, filed, numbered, entered_limit}
use Rattle.rules.specs.Opening.{Round, goes_on, ending_after}
use Rattle.rules.specs.Result.{count, rounds_in, word_place, round_said, auction_in, start_said, standing_said, pieces_over, traded_over}
use Rattle.rules.specs.Sheet.{heading_of, orders_of}
use Rattle.rules.specs.Words.{word_at, word}
use Rattle.rules.specs.declared.Side.{Side}
use Rattle.rules.specs.declared.Side.TheVariants.{Buy, Sell}
use Rattle.rules.specs.declared.Standing.{Standing}

-- ---- The claims about one round

-- [13.8] The kinds of the words of round r.
pub record Kinds (ws rs : List ℕ) (r : ℕ) : Type 0 where
  pub situation : (word_at rs (word_place ws r 0)).kind ≡ 10
  pub price : (word_at rs (word_place ws r 1)).kind ≡ 11
  pub purchase : (word_at rs (word_place ws r 2)).kind ≡ 12
  pub total : (word_at rs (word_place ws r 3)).kind ≡ 13
  pub fills : (k : ℕ) → k < count ws → (word_at rs (word_place ws r (4 + k))).kind ≡ 14

-- [13.8] Trading at the purchase price is past a limit that does not allow it.
abbrev pub past_limit : Side → ℕ → ℕ → Bool
past_limit s limit purchase = not (allows s limit purchase)

-- [13.8] A round x with the orders os at their limits in force, after the last purchase price.
pub record RoundHolds (ws : List ℕ) (last : ℕ) (os : List Standing) (x : Round) (a : Auction) : Type 0 where
  -- situation and auction price are those of the rules
  pub auctioned : auction (heading_of ws) last os ≡ a
  pub best : (p : ℕ) → on_grid p ≡ true → 0 < carries (heading_of ws) os p → BestPrice (heading_of ws) os a.price
  -- the fills meet F1–F4, and every other list of n numbers that meets them has a smaller total
  pub filled : Largest (heading_of ws) a os x.fills
  -- bought equals sold, and the total word is the number bought
  pub bought : x.total ≡ total Buy os x.fills
  pub sold : x.total ≡ total Sell os x.fills
  -- the purchase price is that of the rules
  pub purchased : x.purchase ≡ purchase_price (heading_of ws) a x.total
  -- no order that gets pieces trades past its limit in force
  pub in_force : (k : ℕ) → k < count ws → 0 < fill_of x.fills k
      → past_limit (numbered os k).side (numbered os k).limit.0 x.purchase ≡ false
  -- or past its entered limit
  pub entered : (k : ℕ) → k < count ws → 0 < fill_of x.fills k
      → past_limit (filed (orders_of ws) k).side
      (entered_limit (heading_of ws) (filed (orders_of ws) k).side (filed (orders_of ws) k).terms)
      x.purchase
      ≡ false

-- [13.8] Round r of the result, from what the sheet and the words before it leave.
abbrev pub SaidHolds : List ℕ → List ℕ → ℕ → Type 0
SaidHolds ws rs r =
    RoundHolds ws (start_said ws rs r).last (standing_said ws rs r) (round_said ws rs r) (auction_in (round_said ws rs r))

-- ---- The claim

-- [13.8] The whole claim.
pub record Demand3 (ws rs : List ℕ) : Type 0 where
  -- the result has 4 + n words for each round and a last word
  pub size : length rs ≡ rounds_in ws rs * (count ws + 4) + 1
  pub kinds : (r : ℕ) → r < rounds_in ws rs → Kinds ws rs r
  -- each round is as the rules say
  pub rounds : (r : ℕ) → r < rounds_in ws rs → SaidHolds ws rs r
  -- over the opening bought equals sold
  pub cleared : traded_over Buy ws rs ≡ traded_over Sell ws rs
  -- no order gets more over the opening than its quantity
  pub within : (k : ℕ) → k < count ws → pieces_over ws rs k ≤ (filed (orders_of ws) k).quantity.0
  -- the opening goes on after each round but the last
  pub goes : (r : ℕ) → suc r < rounds_in ws rs → goes_on (heading_of ws) (round_said ws rs r) ≡ true
  pub ends : goes_on (heading_of ws) (round_said ws rs (rounds_in ws rs - 1)) ≡ false
  -- the last word is of kind 15: the ending, after the last round, and the number of rounds
  pub last : get_or rs (rounds_in ws rs * (count ws + 4)) 0
      ≡ word 15 (ending_after (heading_of ws) (round_said ws rs (rounds_in ws rs - 1)) * 65536 + rounds_in ws rs)
  -- the rounds are at least 1 and at most n + 1
  pub least : 1 ≤ rounds_in ws rs
  pub most : rounds_in ws rs ≤ count ws + 1
