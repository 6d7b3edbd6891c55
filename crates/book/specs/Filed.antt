-- The orders of a round in their places, for the promises of the engine's rounds. Serves [4.1].
use Rattle.std.specs.Prelude.{List, map, ℕ, take}
use Rattle.rules.specs.declared.Heading.{Heading}
use Rattle.rules.specs.declared.Order.{Order}
use Rattle.rules.specs.declared.Pieces.{Pieces}

-- The orders of a round are the first of 120 places, as many as the heading says.
unfoldable pub filed_in : Heading → List Order → List Order
filed_in h orders = take h.count orders

-- What remains of each of them is in the same places.
unfoldable pub remaining_in : Heading → List Pieces → List ℕ
remaining_in h remaining = map (λ (m : Pieces). m.0) (take h.count remaining)
