-- A limit's place: how many prices of the grid it allows, counted from the side's worst one on. Higher is better for both sides,
-- and 0 is nowhere. Whether an order stands at a price is then one comparison of places, for a buy and a sell alike, and a limit
-- off the grid needs no case of its own.
use mathlib.Core.Bool.{Bool, true, false, ◌&&◌, cond}
use mathlib.Core.Path.{◌≡◌, refl, sym}
use Prim.Native.Nat.{ℕ, ◌+◌, ◌-◌, ◌≤◌, max, min}
use native.Mathlib.Omega.{arith}
use lib.Dec.{leb}
use borrow.Author.Tests.{leb-true, le-leb, lt-leb}
use Rattle.claims.specs.Places.{place_of}
use Rattle.rules.proofs.Grid.{OnGrid}
use Rattle.rules.specs.Grid.{last_price, nth}
use Rattle.rules.specs.Limits.{same_side, allows, stands_at}
use Rattle.rules.specs.declared.Side.{Side}
use Rattle.rules.specs.declared.Side.TheVariants.{Buy, Sell}
use Rattle.rules.specs.declared.Standing.{Standing}

pub place_le : (s : Side) (limit : ℕ) → place_of s limit ≤ last_price
place_le Buy limit = omega arith
place_le Sell limit = omega arith

-- a price of the grid is the one at its place, which is on the grid too
pub price_placed : (s : Side) (p : ℕ) → OnGrid p → nth s (place_of s p) ≡ p
price_placed Buy p on = omega arith
price_placed Sell p on = omega arith

pub placed_on : (s : Side) (p : ℕ) → OnGrid p → OnGrid (place_of s p)
placed_on Buy p on = (omega arith, omega arith)
placed_on Sell p on = (omega arith, omega arith)

-- two tests are one where each fact gives the other
pub same_test : (t u : Bool) → (t ≡ true → u ≡ true) → (u ≡ true → t ≡ true) → t ≡ u
same_test true u f g = sym (f refl)
same_test false true f g = g refl
same_test false false f g = refl

pub same_leb : (a b c d : ℕ) → (a ≤ b → c ≤ d) → (c ≤ d → a ≤ b) → leb a b ≡ leb c d
same_leb a b c d f g =
    same_test (leb a b) (leb c d) (λ e. le-leb c d (f (leb-true a b e))) (λ e. le-leb a b (g (leb-true c d e)))

-- a limit allows the prices up to its place
pub allows_place : (s : Side) (limit k : ℕ) → OnGrid k → allows s limit (nth s k) ≡ leb k (place_of s limit)
allows_place Buy limit k on = same_leb k limit k (min limit last_price) (λ h. omega arith) (λ h. omega arith)
allows_place Sell limit k on =
    same_leb limit (last_price + 1 - k) k (last_price + 1 - max limit 1) (λ h. omega arith) (λ h. omega arith)

-- the place of an order among those of side s; one of the other side stands nowhere
abbrev pub place_among : Side → Standing → ℕ
place_among s o = cond (same_side s o.side) (place_of s o.limit.0) 0

pub stands_place : (s : Side) (o : Standing) (k : ℕ) → OnGrid k → stands_at s (nth s k) o ≡ leb k (place_among s o)
stands_place s o k on = go (same_side s o.side)
  where
    go : (t : Bool) → (t && allows s o.limit.0 (nth s k)) ≡ leb k (cond t (place_of s o.limit.0) 0)
    go true = allows_place s o.limit.0 k on
    go false = sym (lt-leb k 0 on.0)
