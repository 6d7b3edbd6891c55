-- Clauses 4.1–4.7 of docs/RULES.md: the orders as they stand in a round, and the limit in force of a Stepper.
use Rattle.std.specs.Prelude.{Bool, true, false, not, ◌&&◌, cond, List, ℕ, ◌+◌, ◌-◌, max, min, leb, ltb, eqb, length, get_or}
use Rattle.std.proofs.Math.Option.{Option, none, some}
use Rattle.rules.specs.Grid.{Scan, over_grid}
use Rattle.rules.specs.Lists.{listed, sum_to}
use Rattle.rules.specs.Sheet.{D, H}
use Rattle.rules.specs.declared.Heading.{Heading}
use Rattle.rules.specs.declared.Order.{Order}
use Rattle.rules.specs.declared.Side.{Side}
use Rattle.rules.specs.declared.Side.TheVariants.{Buy, Sell}
use Rattle.rules.specs.declared.Standing.{Standing}
use Rattle.rules.specs.declared.Terms.{Terms}
use Rattle.rules.specs.declared.Terms.TheVariants.{WithoutLimit, Limited, Stepper}

-- ---- The orders of a round

-- [4.1] Whether two sides are the same.
abbrev pub same_side : Side → Side → Bool
same_side Buy Buy = true
same_side Buy Sell = false
same_side Sell Buy = false
same_side Sell Sell = true

-- [4.1] An order without limit or a limited one may be all-or-none, a Stepper is not.
abbrev pub all_or_none : Terms → Bool
all_or_none (WithoutLimit a) = a
all_or_none (Limited l a) = a
all_or_none (Stepper l q) = false

-- [4.1] An order as it stands in a round, at a limit and with what remains of it. With nothing remaining it adds to
-- no sum, gets no fill and counts as filled completely: it counts nowhere.
abbrev pub stands : Order → ℕ → ℕ → Standing
stands o limit remaining = record {
  side = o.side;
  limit = record { 0 = limit };
  remaining = record { 0 = remaining };
  all_or_none = all_or_none o.terms;
}

-- [4.1] What stands at a place that holds no order: an order of nothing.
abbrev pub no_order : Order
no_order = record { side = Buy; terms = WithoutLimit false; quantity = record { 0 = 0 } }

-- [4.1] The order of number k, as filed and as it stands.
abbrev pub filed : List Order → ℕ → Order
filed orders k = get_or orders k no_order

abbrev pub numbered : List Standing → ℕ → Standing
numbered os k = get_or os k (stands no_order 0 0)

-- [4.2] A buy's limit allows prices up to it, a sell's those from it on.
abbrev pub allows : Side → ℕ → ℕ → Bool
allows Buy limit p = leb p limit
allows Sell limit p = leb limit p

-- [4.2] The order is of side s and its limit allows p.
abbrev pub stands_at : Side → ℕ → Standing → Bool
stands_at s p o = same_side s o.side && allows s o.limit.0 p

-- [4.2] The remaining pieces at price p of those orders of side s whose number passes a test.
unfoldable pub pieces_at : (ℕ → Bool) → Side → List Standing → ℕ → ℕ
pieces_at counts s os p =
    sum_to (λ j. cond (counts j && stands_at s p (numbered os j)) (numbered os j).remaining.0 0) (length os)

-- ---- The entered limit

-- [4.3] Without limit a buy is entered at H, a sell at D; else the limit on the sheet counts.
abbrev pub without_limit : Heading → Side → ℕ
without_limit h Buy = H h
without_limit h Sell = D h

unfoldable pub entered_limit : Heading → Side → Terms → ℕ
entered_limit h s (WithoutLimit a) = without_limit h s
entered_limit h s (Limited l a) = l.0
entered_limit h s (Stepper l q) = l.0

-- [4.3] The orders at their entered limits, with what remains of each.
unfoldable pub entered : Heading → List Order → List ℕ → List Standing
entered h orders remaining =
    listed
    (λ k. stands (filed orders k) (entered_limit h (filed orders k).side (filed orders k).terms) (get_or remaining k 0))
    (length orders)

-- ---- The limit in force

-- [4.4] Order j is another than order k.
abbrev pub others : ℕ → ℕ → Bool
others k j = not (eqb j k)

-- [4.4] The pieces at price p of the orders of order k's side but itself, all at their entered limits, Steppers too.
abbrev pub rival_pieces : Heading → List Order → List ℕ → ℕ → ℕ → ℕ
rival_pieces h orders remaining k p = pieces_at (others k) (filed orders k).side (entered h orders remaining) p

-- [4.5] The best price for the side at which the rivals' pieces are more than is ignored, or none.
abbrev pub best_rival : Scan ℕ → Side → ℕ → Option ℕ
best_rival rivals s ignored = rivals.best s (λ pieces. ltb ignored pieces)

-- [4.6] A buying Stepper goes to its best rival price plus the sheet's step, but not below D, and to D where there is no such
-- price; never above its entered limit. A selling one goes to its best rival price less the step, but not above H, and to H
-- where there is no such price; never below its entered limit. Where the step is larger than the price the difference is 0,
-- and the entered limit counts.
unfoldable pub stepped : Heading → Side → ℕ → Option ℕ → ℕ
stepped h Buy limit (some rival) = min limit (max (D h) (rival + h.step.0))
stepped h Buy limit none = min limit (D h)
stepped h Sell limit (some rival) = max limit (min (H h) (rival - h.step.0))
stepped h Sell limit none = max limit (H h)

-- [4.7] A Stepper steps, worked out anew from what remains in the round; all others keep their entered limit.
unfoldable pub limit_in_force : Heading → Side → Terms → Scan ℕ → ℕ
limit_in_force h s (WithoutLimit a) rivals = entered_limit h s (WithoutLimit a)
limit_in_force h s (Limited l a) rivals = entered_limit h s (Limited l a)
limit_in_force h s (Stepper l q) rivals = stepped h s (entered_limit h s (Stepper l q)) (best_rival rivals s q.0)

-- [4.7] The orders at their limits in force, where rivals k is the look through the grid in which each price has the
-- pieces that order k's rivals have there.
unfoldable pub standing_by : (ℕ → Scan ℕ) → Heading → List Order → List ℕ → List Standing
standing_by rivals h orders remaining =
    listed
    (λ k.
    stands (filed orders k) (limit_in_force h (filed orders k).side (filed orders k).terms (rivals k)) (get_or remaining k 0))
    (length orders)

-- [4.7] The orders at their limits in force, over the whole grid.
unfoldable pub standing : Heading → List Order → List ℕ → List Standing
standing h orders remaining = standing_by (λ k. over_grid (rival_pieces h orders remaining k)) h orders remaining
