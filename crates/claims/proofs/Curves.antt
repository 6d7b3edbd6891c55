-- The curves fall towards the better prices of their side: a limit that allows a price allows each worse one.
use mathlib.Core.Bool.{Bool, true, false, ◌&&◌, cond}
use mathlib.Core.List.{List}
use mathlib.Core.Path.{◌≡◌, refl}
use Prim.Native.Nat.{ℕ, ◌≤◌, zero-le}
use native.Mathlib.Nat.{le_refl}
use native.Mathlib.Omega.{arith}
use lib.ListN.{length}
use borrow.Author.Tests.{leb-true, le-leb}
use Rattle.rules.proofs.Sums.{sum_le}
use Rattle.rules.specs.Grid.{nth}
use Rattle.rules.specs.Limits.{same_side, numbered, allows, pieces_at}
use Rattle.rules.specs.declared.Side.{Side}
use Rattle.rules.specs.declared.Side.TheVariants.{Buy, Sell}
use Rattle.rules.specs.declared.Standing.{Standing}

-- for side s the price q is at least as good as p
abbrev pub AtLeast : Side → ℕ → ℕ → Type 0
AtLeast Buy q p = p ≤ q
AtLeast Sell q p = q ≤ p

-- a limit that allows a price allows each worse one
allows_worse : (s : Side) (limit p q : ℕ) → AtLeast s q p → allows s limit q ≡ true → allows s limit p ≡ true
allows_worse Buy limit p q h e = le-leb p limit (omega (arith, leb-true q limit e))
allows_worse Sell limit p q h e = le-leb limit p (omega (arith, leb-true limit q e))

-- the pieces of any of a side's orders fall towards its better prices
pub pieces_fall : (counts : ℕ → Bool) (s : Side) (os : List Standing) (p q : ℕ) → AtLeast s q p
    → pieces_at counts s os q ≤ pieces_at counts s os p
unfolding pieces_at
pieces_fall counts s os p q h =
    sum_le _ _ (length os)
    (λ j m. part (counts j) (same_side s (numbered os j).side) (numbered os j) (allows s (numbered os j).limit.0 q) refl)
  where
    part : (t u : Bool) (o : Standing) (v : Bool) → allows s o.limit.0 q ≡ v
        → cond (t && (u && v)) o.remaining.0 0 ≤ cond (t && (u && allows s o.limit.0 p)) o.remaining.0 0
    part true true o true e = rw (allows_worse s o.limit.0 p q h e) (le_refl _)
    part true true o false e = zero-le
    part true false o v e = zero-le
    part false u o v e = zero-le

-- and so towards its better places
pub places_fall : (counts : ℕ → Bool) (s : Side) (os : List Standing) (j k : ℕ) → j ≤ k
    → pieces_at counts s os (nth s k) ≤ pieces_at counts s os (nth s j)
places_fall counts s os j k l = pieces_fall counts s os (nth s j) (nth s k) (farther s)
  where
    farther : (s : Side) → AtLeast s (nth s k) (nth s j)
    farther Buy = l
    farther Sell = omega arith
