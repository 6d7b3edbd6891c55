-- Words for the auction price by four limits, in which the laws and the engine's promises speak; no claim. The limit of a side's piece v is
-- the last price for the side at which at least v of its pieces stand. With V the greatest volume, the maximisers run from the sells' limit
-- of piece V to the buys', and demand exceeds supply there up to the buys' limit of piece V + 1, supply demand from the sells' on. Serves
-- [5.6], [5.8], [5.9] and [5.10].
use Rattle.std.specs.Prelude.{cond, List, ℕ, max, min, leb}
use Rattle.std.proofs.Math.Option.{Option, none, some}
use Rattle.claims.specs.Places.{piece_place}
use Rattle.claims.specs.Price.{levels}
use Rattle.rules.specs.AuctionPrice.{curve, greatest_volume, nearest}
use Rattle.rules.specs.Grid.{last_price, nth}
use Rattle.rules.specs.Sheet.{D, H}
use Rattle.rules.specs.declared.Heading.{Heading}
use Rattle.rules.specs.declared.Side.{Side}
use Rattle.rules.specs.declared.Side.TheVariants.{Buy, Sell}
use Rattle.rules.specs.declared.Standing.{Standing}

-- ---- Limits of pieces

-- The greatest volume of a round.
abbrev pub greatest : Heading → List Standing → ℕ
greatest h os = greatest_volume (levels h os)

-- The limit of a side's piece v; the price beyond the side's worst one where the piece stands nowhere.
unfoldable pub piece_limit : List Standing → Side → ℕ → ℕ
piece_limit os s v = nth s (piece_place (λ k. curve s os (nth s k)) v)

-- ---- Spans of prices

-- The end of low..high that is the better for side s, or none where low..high is empty.
abbrev pub end_for : Side → ℕ → ℕ → ℕ
end_for Buy low high = high
end_for Sell low high = low

unfoldable pub span_end : Side → ℕ → ℕ → Option ℕ
span_end s low high = cond (leb low high) (some (end_for s low high)) none

-- The prices that a limit allows, from the side's worst one to the limit.
abbrev pub low_for : Side → ℕ → ℕ
low_for Buy limit = 1
low_for Sell limit = limit

abbrev pub high_for : Side → ℕ → ℕ
high_for Buy limit = limit
high_for Sell limit = last_price

-- ---- The auction price

-- The best price of side s in the band, where its pieces stand up to x.
abbrev pub end_within : Heading → Side → ℕ → Option ℕ
end_within h s x = span_end s (max (D h) (low_for s x)) (min (H h) (high_for s x))

-- The price of low..high up to which side s has more pieces than the other, where that is so up to x: l for the buys, r for the sells.
abbrev pub held : Side → ℕ → ℕ → ℕ → ℕ
held Buy low high x = max low (min high x)
held Sell low high x = min high (max low x)

-- The auction price, where the potential prices are low..high, demand exceeds supply up to x and supply demand from y on.
abbrev pub balanced : ℕ → ℕ → ℕ → ℕ → ℕ → ℕ
balanced low high x y last = nearest (held Buy low high x) (held Sell low high y) last

-- The same, where the maximisers run from a to b: those in the band are the potential prices, or all if it has none.
unfoldable pub crossed_at : Heading → ℕ → ℕ → ℕ → ℕ → ℕ → ℕ
crossed_at h a b x y last =
    cond (leb (max (D h) a) (min (H h) b))
    (balanced (max (D h) a) (min (H h) b) x y last)
    (balanced a b x y last)
