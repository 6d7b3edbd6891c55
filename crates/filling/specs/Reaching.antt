-- The totals that a side can lawfully reach, by its queue. Serves [6.6].
use Rattle.std.specs.Prelude.{List, ◌≡◌, ℕ, ◌≤◌, length}
use Rattle.lines.specs.Lines.{up_to}
use Rattle.rules.specs.AuctionPrice.{Auction}
use Rattle.rules.specs.Fills.{reaches}
use Rattle.rules.specs.Lists.{largest_to}
use Rattle.rules.specs.declared.Heading.{Heading}
use Rattle.rules.specs.declared.Side.{Side}
use Rattle.rules.specs.declared.Standing.{Standing}
use Rattle.filling.specs.Queues.{QueueOf}
use Rattle.filling.specs.declared.totals.Reached.{Reached}

-- All orders of a queue, and their pieces.
pub record WholeOf (queue : List ℕ) (r : Reached) : Type 0 where
  pub long : r.orders ≡ length queue
  pub summed : r.sum.0 ≡ up_to queue r.orders

-- From a total of the first orders of a queue, r is the largest at or below it that the side can lawfully reach, and a total of as many
-- orders as r says, with their pieces.
pub record ReachedFrom (queue : List ℕ) (orders total : ℕ) (r : Reached) : Type 0 where
  pub low : r.total.0 ≤ total
  pub fewer : r.orders ≤ orders
  pub summed : r.sum.0 ≡ up_to queue r.orders
  pub largest : (h : Heading) (a : Auction) (os : List Standing) (s : Side) → QueueOf h a os s queue → total ≤ up_to queue orders
      → (r.total.0 ≡ largest_to (reaches h a os s) total) × (r.total.0 ≤ up_to queue r.orders)
