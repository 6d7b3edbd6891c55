-- Clauses 6.1–6.8 of docs/RULES.md: who is eligible, the priority, the fills and the purchase price. The orders os
-- stand at their limits in force, and a is the auction of the round. F1–F4, for any list of fills, are claimed of the
-- fills: `claims` has them.
use Rattle.std.specs.Prelude.{Bool, not, ◌&&◌, ◌||◌, cond, List, ℕ, ◌-◌, max, min, leb, ltb, eqb, length, get_or}
use Rattle.std.specs.Bool.{beq}
use Rattle.rules.specs.AuctionPrice.{Auction}
use Rattle.rules.specs.Grid.{moved_into}
use Rattle.rules.specs.Limits.{same_side, allows, numbered}
use Rattle.rules.specs.Lists.{listed, sum_to, every_to, largest_to}
use Rattle.rules.specs.Sheet.{D, H}
use Rattle.rules.specs.declared.Heading.{Heading}
use Rattle.rules.specs.declared.Side.{Side}
use Rattle.rules.specs.declared.Side.TheVariants.{Buy, Sell}
use Rattle.rules.specs.declared.Standing.{Standing}

-- ---- Eligible orders and their priority

-- [6.1] The price at which pieces trade, if any do: the auction price moved into the band.
abbrev pub potential_purchase : Heading → Auction → ℕ
potential_purchase h a = moved_into (D h) (H h) a.price

-- [6.2] In situation 0 an order is eligible whose limit in force allows the potential purchase price.
unfoldable pub eligible : Heading → Auction → Standing → Bool
eligible h a o = eqb a.situation 0 && allows o.side o.limit.0 (potential_purchase h a)

-- [6.3] The limit that counts for priority: a buy's above H counts as H, a sell's below D as D.
abbrev pub priority_limit : Heading → Side → ℕ → ℕ
priority_limit h Buy limit = min limit (H h)
priority_limit h Sell limit = max limit (D h)

-- [6.3] The better limit goes first: of buys the higher, of sells the lower.
abbrev pub first_by : Side → ℕ → ℕ → Bool
first_by Buy l m = ltb m l
first_by Sell l m = ltb l m

-- [6.3] Of two orders i and j with equal priority limits, where x and y tell whether they are all-or-none, i goes first if j is and
-- i is not, or if they are alike in that and i is the lower number.
abbrev pub first_at_equal_limits : Bool → Bool → ℕ → ℕ → Bool
first_at_equal_limits x y i j = not x && y || beq x y && ltb i j

-- [6.3] An order o of number i is ranked before an order q of number j on its side.
unfoldable pub first_of : Heading → Standing → Standing → ℕ → ℕ → Bool
first_of h o q i j =
    same_side o.side q.side
    && (first_by o.side (priority_limit h o.side o.limit.0) (priority_limit h q.side q.limit.0)
    || eqb (priority_limit h o.side o.limit.0) (priority_limit h q.side q.limit.0)
    && first_at_equal_limits o.all_or_none q.all_or_none i j)

abbrev pub ranked_before : Heading → List Standing → ℕ → ℕ → Bool
ranked_before h os i j = first_of h (numbered os i) (numbered os j) i j

-- ---- Lists of fills

-- [6.4] What order k gets by a list of fills.
abbrev pub fill_of : List ℕ → ℕ → ℕ
fill_of fills k = get_or fills k 0

-- [6.4] What the orders of side s get together; of the buys it is the total that is reported.
unfoldable pub total : Side → List Standing → List ℕ → ℕ
total s os fills = sum_to (λ k. cond (same_side s (numbered os k).side) (fill_of fills k) 0) (length os)

-- ---- The fills, as a function

-- By F1 and F2 a side hands its total out by priority: there is one way to do it. What F3 leaves of its totals are those that
-- it can lawfully reach.

-- [6.5] The pieces of the eligible orders of side s.
unfoldable pub offered : Heading → Auction → List Standing → Side → ℕ
offered h a os s =
    sum_to (λ k. cond (same_side s (numbered os k).side && eligible h a (numbered os k)) (numbered os k).remaining.0 0)
    (length os)

-- [6.5] The pieces of the eligible orders ranked before order k on its side.
unfoldable pub ahead : Heading → Auction → List Standing → ℕ → ℕ
ahead h a os k =
    sum_to (λ j. cond (eligible h a (numbered os j) && ranked_before h os j k) (numbered os j).remaining.0 0) (length os)

-- [6.5] What order k gets of its side's total: if it is eligible, what the eligible orders ranked before it leave, at most what
-- remains of it; else 0.
unfoldable pub share : Heading → Auction → List Standing → ℕ → ℕ → ℕ
share h a os sum k =
    cond (eligible h a (numbered os k)) (min (numbered os k).remaining.0 (sum - ahead h a os k)) 0

-- [6.6] Of that total order k, if it is all-or-none, gets all that remains of it or nothing.
abbrev pub unsplit : Heading → Auction → List Standing → ℕ → ℕ → Bool
unsplit h a os sum k =
    not (numbered os k).all_or_none
    || (eqb (share h a os sum k) (numbered os k).remaining.0 || eqb (share h a os sum k) 0)

-- [6.6] Side s can lawfully reach a total: its eligible orders have the pieces, and no all-or-none order of it is split.
unfoldable pub reaches : Heading → Auction → List Standing → Side → ℕ → Bool
reaches h a os s sum =
    leb sum (offered h a os s)
    && every_to (λ k. not (same_side s (numbered os k).side) || unsplit h a os sum k) (length os)

-- [6.7] The largest total within lawful reach of both sides, and each order's share of it.
unfoldable pub largest_total : Heading → Auction → List Standing → ℕ
largest_total h a os =
    largest_to (λ sum. reaches h a os Buy sum && reaches h a os Sell sum) (min (offered h a os Buy) (offered h a os Sell))

unfoldable pub fills_of : Heading → Auction → List Standing → List ℕ
fills_of h a os = listed (share h a os (largest_total h a os)) (length os)

-- ---- The purchase price

-- [6.8] The purchase price is the potential one where a piece trades, else 0.
abbrev pub purchase_price : Heading → Auction → ℕ → ℕ
purchase_price h a sum = cond (leb 1 sum) (potential_purchase h a) 0
