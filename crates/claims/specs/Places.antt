-- Places. A limit's place is how many prices of the grid it allows, counted from the side's worst one on: higher is better for both sides,
-- and 0 is nowhere. Whether an order stands at a price is then one comparison, for a buy and a sell alike, and a limit off the grid needs
-- no case of its own. Serves [1.4] and [4.2].
use Rattle.std.specs.Prelude.{ℕ, ◌+◌, ◌-◌, max, min, leb}
use Rattle.rules.specs.Grid.{last_price}
use Rattle.rules.specs.Lists.{largest_to}
use Rattle.rules.specs.declared.Side.{Side}
use Rattle.rules.specs.declared.Side.TheVariants.{Buy, Sell}

abbrev pub place_of : Side → ℕ → ℕ
place_of Buy limit = min limit last_price
place_of Sell limit = last_price + 1 - max limit 1

-- The place of a side's piece v, where F k pieces stand at place k: the last at which at least v stand, 0 where there is none.
unfoldable pub piece_place : (ℕ → ℕ) → ℕ → ℕ
piece_place F v = largest_to (λ k. leb v (F k)) last_price
