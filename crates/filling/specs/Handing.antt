-- A total handed out along a side's queue. Serves [6.5].
use Rattle.std.specs.Prelude.{true, List, ◌≡◌, ℕ, ◌≤◌, ◌<◌, length}
use Rattle.claims.specs.Orders.{left, side}
use Rattle.lines.specs.Lines.{Bounded, LineOf}
use Rattle.lines.specs.Pieces.{most_pieces, pieces_of}
use Rattle.rules.specs.AuctionPrice.{Auction}
use Rattle.rules.specs.Fills.{potential_purchase, share}
use Rattle.rules.specs.Limits.{same_side}
use Rattle.rules.specs.Sheet.{most_orders}
use Rattle.rules.specs.declared.Heading.{Heading}
use Rattle.rules.specs.declared.Pieces.{Pieces}
use Rattle.rules.specs.declared.Side.{Side}
use Rattle.rules.specs.declared.Standing.{Standing}
use Rattle.filling.specs.Queues.{QueueOf}

-- The queue of side s of the orders os, of which each has a place for its fill and has room in 32 bits.
pub record Given (h : Heading) (a : Auction) (os : List Standing) (s : Side) (queue : List ℕ) : Type 0 where
  pub standing : QueueOf h a os s queue
  pub few : length os ≤ most_orders
  pub small : (k : ℕ) → k < length os → left os k ≤ most_pieces

-- Where a purchase price is the potential one, the line of side s has become the side's queue. It is never longer than it was.
pub record LineQueued (h : Heading) (s : Side) (purchase : ℕ) (old new : List ℕ) : Type 0 where
  pub within : length new ≤ length old
  pub given : (a : Auction) (os : List Standing) → a.situation ≡ 0 → purchase ≡ potential_purchase h a → Bounded h → LineOf s os old
      → Given h a os s new

-- The orders of the side have their shares, where they had none; all other fills stay.
pub record HandedTo (h : Heading) (a : Auction) (os : List Standing) (s : Side) (total : ℕ) (before after : List Pieces) : Type 0 where
  pub long : length after ≡ most_orders
  pub shares : (k : ℕ) → k < length os → same_side s (side os k) ≡ true → pieces_of before k ≡ 0 → pieces_of after k ≡ share h a os total k
  pub others : (k : ℕ) → (k < length os → same_side s (side os k) ≡ true → ⊥) → pieces_of after k ≡ pieces_of before k
