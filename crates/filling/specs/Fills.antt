-- The fills of a round in their places, for the promise of this crate. Serves [6.7].
use Rattle.std.specs.Prelude.{List, ◌++◌, map, ℕ, ◌-◌, length, replicate}
use Rattle.rules.specs.AuctionPrice.{Auction}
use Rattle.rules.specs.Fills.{largest_total, fills_of}
use Rattle.rules.specs.Sheet.{most_orders}
use Rattle.rules.specs.declared.Heading.{Heading}
use Rattle.rules.specs.declared.Pieces.{Pieces}
use Rattle.rules.specs.declared.Standing.{Standing}
use Rattle.filling.specs.declared.Filled.{Filled}

-- So many pieces.
abbrev pub pieces : ℕ → Pieces
pieces x = record { 0 = x }

-- The fills of n orders from the first of 120 places on. At the other places nothing is filled.
unfoldable pub in_places : List ℕ → List Pieces
in_places fills = map pieces fills ++ replicate (most_orders - length fills) (pieces 0)

-- The largest total, and the fills of the rules in their places.
unfoldable pub filled_with : Heading → Auction → List Standing → Filled
filled_with h a os = record { total = record { 0 = largest_total h a os }; fills = in_places (fills_of h a os) }
