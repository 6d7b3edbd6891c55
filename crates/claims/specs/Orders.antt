-- The orders of a round by number, in short: what remains of one, its side, whether it is eligible. Serves [4.1] and [6.2].
use Rattle.std.specs.Prelude.{Bool, List, ℕ}
use Rattle.rules.specs.AuctionPrice.{Auction}
use Rattle.rules.specs.Fills.{eligible}
use Rattle.rules.specs.Limits.{numbered}
use Rattle.rules.specs.declared.Heading.{Heading}
use Rattle.rules.specs.declared.Side.{Side}
use Rattle.rules.specs.declared.Standing.{Standing}

abbrev pub left : List Standing → ℕ → ℕ
left os k = (numbered os k).remaining.0

abbrev pub side : List Standing → ℕ → Side
side os k = (numbered os k).side

abbrev pub el : Heading → Auction → List Standing → ℕ → Bool
el h a os k = eligible h a (numbered os k)
