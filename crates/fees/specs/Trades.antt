-- What the words of a result say of the orders' trades, from the number of orders alone, and which words have fees that 64 bits hold.
-- Serves [8.9].
use Rattle.std.specs.Prelude.{true, List, ◌≡◌, ℕ, ◌+◌, ◌*◌, ◌/◌, ◌≤◌, ◌<◌, length}
use Rattle.rules.specs.Fees.{tariff_stands, order_fee}
use Rattle.rules.specs.Lists.{listed}
use Rattle.rules.specs.Words.{word_at}
use Rattle.rules.specs.declared.Tariff.{Tariff}
use Rattle.rules.specs.declared.Trade.{Trade}

-- The trade of order k in the round whose words begin at a place.
unfoldable pub trade_at : List ℕ → ℕ → ℕ → Trade
trade_at rs place k =
    record { pieces = record { 0 = (word_at rs (place + (4 + k))).value }; purchase = record { 0 = (word_at rs (place + 2)).value } }

-- The trade of order k in round r, among n orders.
abbrev pub trade_in : ℕ → List ℕ → ℕ → ℕ → Trade
trade_in n rs k r = trade_at rs (r * (n + 4)) k

-- The fees on the words of a result of n orders.
unfoldable pub fees_in : Tariff → ℕ → List ℕ → List ℕ
fees_in t n rs = listed (λ k. order_fee t (trade_in n rs k) (length rs / (n + 4))) n

-- A trade of no more than a million pieces, at a price of no more than the last of the grid.
pub record Small (x : Trade) : Type 0 where
  pub pieces : x.pieces.0 ≤ 1000000
  pub purchase : x.purchase.0 ≤ 1000000

-- A tariff that stands, and no more words than an opening can have, all of whose trades are small.
pub record Chargeable (t : Tariff) (n : ℕ) (rs : List ℕ) : Type 0 where
  pub tariff : tariff_stands t ≡ true
  pub orders : n ≤ 120
  pub words : length rs ≤ 15005
  pub trades : (k r : ℕ) → k < n → r < length rs / (n + 4) → Small (trade_in n rs k r)
