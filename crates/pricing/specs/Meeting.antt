-- How far the lines of both sides meet, and the orders that hold the last piece that is carried and the next one. Serves [5.6].
use Rattle.std.specs.Prelude.{Bool, ◌&&◌, List, ◌≡◌, ℕ, suc, ◌+◌, ◌≤◌, ◌<◌, ltb, length}
use Rattle.claims.specs.Crossing.{greatest}
use Rattle.lines.specs.Lines.{place_at, up_to}
use Rattle.rules.specs.Grid.{last_price}
use Rattle.rules.specs.Sheet.{most_orders}
use Rattle.rules.specs.declared.Heading.{Heading}
use Rattle.rules.specs.declared.Standing.{Standing}
use Rattle.sorting.specs.Sorted.{item}
use Rattle.pricing.specs.declared.meet.Met.{Met}

-- Orders i and j of two lines are there and meet.
unfoldable pub meet_at : List ℕ → ℕ → List ℕ → ℕ → Bool
meet_at bids i asks j =
    ltb i (length bids) && (ltb j (length asks) && ltb last_price (place_at bids i + place_at asks j))

-- They do, and these are their entries.
pub record MeetAs (bids : List ℕ) (i : ℕ) (asks : List ℕ) (j : ℕ) (both : ℕ × ℕ) : Type 0 where
  pub buy : i < length bids
  pub sell : j < length asks
  pub cross : last_price < place_at bids i + place_at asks j
  pub bid : both.0 ≡ item bids i
  pub ask : both.1 ≡ item asks j
  pub few_bids : i < most_orders
  pub few_asks : j < most_orders

-- Order i of a line holds piece v: the orders before it have fewer, with it they have as many. Where v is more than all have, i is the
-- place after the last.
pub record HoldsPiece (line : List ℕ) (i v : ℕ) : Type 0 where
  pub within : i ≤ length line
  pub past : up_to line i < v
  pub most : i < length line → v ≤ up_to line (suc i)

-- The two lines meet for the greatest volume, and the orders reached hold the next piece.
pub record MetAs (h : Heading) (os : List Standing) (bids asks : List ℕ) (r : Met) : Type 0 where
  pub volume : r.volume.0 ≡ greatest h os
  pub buy : HoldsPiece bids r.buys.order (suc r.volume.0)
  pub bought : r.buys.before.0 ≡ up_to bids r.buys.order
  pub sell : HoldsPiece asks r.sells.order (suc r.volume.0)
  pub sold : r.sells.before.0 ≡ up_to asks r.sells.order
