-- Clauses 8.5–8.9 of docs/RULES.md: the fees on a result. A reader holds a sheet ws, the result words rs of its opening
-- and a tariff t; what each order pays follows from these.
use Rattle.std.specs.Prelude.{Bool, ◌&&◌, cond, List, ℕ, ◌+◌, ◌*◌, ◌/◌, leb, eqb}
use Rattle.rules.specs.Fills.{fill_of}
use Rattle.rules.specs.Grid.{moved_into}
use Rattle.rules.specs.Lists.{listed, sum_to}
use Rattle.rules.specs.Result.{count, rounds_in, round_said}
use Rattle.rules.specs.declared.Tariff.{Tariff}
use Rattle.rules.specs.declared.Trade.{Trade}

-- ---- The tariff

-- [8.5] A tariff from its figures: rate, least fee, greatest fee.
abbrev pub tariff_of : ℕ → ℕ → ℕ → Tariff
tariff_of rate least greatest = record { rate = rate; least = least; greatest = greatest }

-- [8.5] The highest rate, in ten-thousandths, and the highest fee that a tariff may name, in hellers.
abbrev pub most_rate : ℕ
most_rate = 10000

abbrev pub most_fee : ℕ
most_fee = 100000000

-- [8.5] A tariff stands where each of its figures is in its range and the least fee is not above the greatest.
unfoldable pub tariff_stands : Tariff → Bool
tariff_stands t =
    leb t.rate most_rate && leb t.least most_fee && leb t.greatest most_fee && leb t.least t.greatest

-- ---- The fee of a fill

-- [8.6] The worth of a trade in hellers, ten for each step of the purchase price.
abbrev pub worth : Trade → ℕ
worth x = x.pieces.0 * x.purchase.0 * 10

-- [8.7] So many ten-thousandths of a worth, in whole hellers, halves rounded up.
abbrev pub rated : ℕ → ℕ → ℕ
rated rate hellers = (hellers * rate + 5000) / 10000

-- [8.7] The fee of a fill: what the rate makes of its worth, raised to the least fee or cut to the greatest. No pieces
-- cost nothing.
unfoldable pub fill_fee : Tariff → Trade → ℕ
fill_fee t x = cond (eqb x.pieces.0 0) 0 (moved_into t.least t.greatest (rated t.rate (worth x)))

-- ---- The fees of an opening

-- [8.8] The fee of an order from its trades, one in each round: the fees of its fills together.
unfoldable pub order_fee : Tariff → (ℕ → Trade) → ℕ → ℕ
order_fee t trade rounds = sum_to (λ r. fill_fee t (trade r)) rounds

-- [8.9] The trade of order k in round r, as the words of the round say it.
unfoldable pub trade_said : List ℕ → List ℕ → ℕ → ℕ → Trade
trade_said ws rs k r =
    record { pieces = record { 0 = fill_of (round_said ws rs r).fills k }; purchase = record { 0 = (round_said ws rs r).purchase } }

-- [8.9] The fees on a result, order by order.
unfoldable pub fees_on : Tariff → List ℕ → List ℕ → List ℕ
fees_on t ws rs = listed (λ k. order_fee t (trade_said ws rs k) (rounds_in ws rs)) (count ws)
