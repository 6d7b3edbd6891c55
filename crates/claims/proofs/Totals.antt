-- The totals that a side can lawfully reach: nothing is one of them, and the largest that both sides can reach is one of both.
use mathlib.Core.Bool.{Bool, true, false, not, ◌&&◌, ◌||◌, cond}
use mathlib.Core.List.{List}
use mathlib.Core.Logic.{◌⊎◌, inl, inr}
use mathlib.Core.Path.{◌≡◌, refl, ap, ◌∙◌}
use Prim.Native.Nat.{ℕ, zero, suc, ◌-◌, ◌≤◌, ◌<◌, min, zero-le}
use native.Mathlib.Nat.{eq-or-lt_of_le}
use native.Mathlib.Omega.{arith}
use lib.Dec.{leb, eqb}
use lib.ListN.{length}
use borrow.Author.Tests.{leb-true, le-leb, eq-eqb}
use Rattle.claims.proofs.Handed.{shares_sum}
use Rattle.claims.specs.Orders.{left, side, el}
use Rattle.claims.proofs.Sums.{last_or_before}
use Rattle.rules.proofs.Grid.{both}
use Rattle.rules.proofs.Lists.{length-listed, get_d_listed}
use Rattle.rules.proofs.Scan.{largest_le, largest_ge, largest_passes}
use Rattle.rules.proofs.Sums.{sum_same}
use Rattle.rules.specs.AuctionPrice.{Auction}
use Rattle.rules.specs.Fills.{fill_of, total, offered, ahead, share, unsplit, reaches, largest_total, fills_of}
use Rattle.rules.specs.Limits.{same_side, numbered}
use Rattle.rules.specs.Lists.{every_to, largest_to}
use Rattle.rules.specs.declared.Heading.{Heading}
use Rattle.rules.specs.declared.Side.{Side}
use Rattle.rules.specs.declared.Side.TheVariants.{Buy, Sell}
use Rattle.rules.specs.declared.Standing.{Standing}

pub every_at : (P : ℕ → Bool) (n k : ℕ) → every_to P n ≡ true → k < n → P k ≡ true
unfolding every_to
every_at P zero k e l = absurd (omega arith)
every_at P (suc n) k e l = go (last_or_before l) (every_at P n k (both {a = every_to P n} e).0)
  where
    go : (k ≡ n) ⊎ (k < n) → (k < n → P k ≡ true) → P k ≡ true
    go (inl q) before = rw q (both {a = every_to P n} e).1
    go (inr m) before = before m

pub every_from : (P : ℕ → Bool) (n : ℕ) → ((k : ℕ) → k < n → P k ≡ true) → every_to P n ≡ true
unfolding every_to
every_from P zero all = refl
every_from P (suc n) all = rw (every_from P n (λ k l. all k (omega arith)), all n (omega arith))

pub or_right : (t : Bool) {u : Bool} → u ≡ true → (t || u) ≡ true
or_right true e = refl
or_right false e = e

pub either : (t : Bool) {u : Bool} → (t || u) ≡ true → (t ≡ true) ⊎ (u ≡ true)
either true e = inl refl
either false e = inr e

-- where 0 passes, the largest that passes does
pub largest_ok : (P : ℕ → Bool) (m : ℕ) → P 0 ≡ true → P (largest_to P m) ≡ true
largest_ok P m none = go (largest_to P m) refl
  where
    go : (x : ℕ) → largest_to P m ≡ x → P (largest_to P m) ≡ true
    go zero e = rw e none
    go (suc x) e = largest_passes P m (omega arith)

-- it is the one above which none passes
pub largest_is : (P : ℕ → Bool) (m r : ℕ) → r ≤ m → P r ≡ true → ((u : ℕ) → r < u → u ≤ m → P u ≡ true → ⊥)
    → r ≡ largest_to P m
largest_is P m r low e none = go (eq-or-lt_of_le (largest_ge P m r low e))
  where
    go : (r ≡ largest_to P m) ⊎ (r < largest_to P m) → r ≡ largest_to P m
    go (inl q) = q
    go (inr l) = absurd (none (largest_to P m) l (largest_le P m) (largest_passes P m (omega arith)))

module _ (h : Heading) (a : Auction) (os : List Standing) where
  abbrev n : ℕ
  n = length os

  abbrev most : ℕ
  most = min (offered h a os Buy) (offered h a os Sell)

  abbrev reached : ℕ → Bool
  reached sum = reaches h a os Buy sum && reaches h a os Sell sum

  -- of nothing everybody gets nothing, and a side can reach it
  share_none : (k : ℕ) → share h a os 0 k ≡ 0
  unfolding share
  share_none k = go (el h a os k)
    where
      go : (t : Bool) → cond t (min (left os k) (0 - ahead h a os k)) 0 ≡ 0
      go true = omega arith
      go false = refl

  pub reaches_none : (s : Side) → reaches h a os s 0 ≡ true
  unfolding reaches
  reaches_none s = rw (le-leb 0 (offered h a os s) zero-le, every_from _ n (λ k l. whole k))
    where
      whole : (k : ℕ) → (not (same_side s (side os k)) || unsplit h a os 0 k) ≡ true
      whole k =
          or_right (not (same_side s (side os k)))
          (or_right (not (numbered os k).all_or_none)
          (or_right (eqb (share h a os 0 k) (left os k)) (eq-eqb (share h a os 0 k) 0 (share_none k))))

  -- both sides can reach the largest total
  pub largest_reached : (s : Side) → reaches h a os s (largest_total h a os) ≡ true
  unfolding largest_total
  largest_reached s = one s (largest_to reached most) (largest_ok reached most (rw (reaches_none Buy, reaches_none Sell)))
    where
      one : (s : Side) (x : ℕ) → reached x ≡ true → reaches h a os s x ≡ true
      one Buy x e = (both {a = reaches h a os Buy x} e).0
      one Sell x e = (both {a = reaches h a os Buy x} e).1

  pub reached_offered : (s : Side) (x : ℕ) → reaches h a os s x ≡ true → x ≤ offered h a os s
  unfolding reaches
  reached_offered s x e = leb-true x (offered h a os s) (both {a = leb x (offered h a os s)} e).0

  pub reached_unsplit : (s : Side) (x k : ℕ) → reaches h a os s x ≡ true → k < n → same_side s (side os k) ≡ true
      → unsplit h a os x k ≡ true
  unfolding reaches
  reached_unsplit s x k e l q =
      let each = (both {a = leb x (offered h a os s)} e).1 in
      rw q at (every_at (λ k. not (same_side s (side os k)) || unsplit h a os x k) n k each l)

  -- no total that both sides can reach is larger
  pub largest_most : (sum : ℕ) → reaches h a os Buy sum ≡ true → reaches h a os Sell sum ≡ true → sum ≤ largest_total h a os
  unfolding largest_total
  largest_most sum e f =
      largest_ge reached most sum (omega (arith, reached_offered Buy sum e, reached_offered Sell sum f)) (rw (e, f))

  -- there is a fill for each order
  pub fills_length : length (fills_of h a os) ≡ length os
  unfolding fills_of
  fills_length = length-listed (share h a os (largest_total h a os)) n

  pub fill_at : (k : ℕ) → k < n → fill_of (fills_of h a os) k ≡ share h a os (largest_total h a os) k
  unfolding fills_of
  fill_at k l = get_d_listed (share h a os (largest_total h a os)) n k 0 l

  -- each side's total is the largest total
  pub total-is : (s : Side) → total s os (fills_of h a os) ≡ largest_total h a os
  unfolding total
  total-is s =
      sum_same _ _ n (λ k l. ap (λ (x : ℕ). cond (same_side s (side os k)) x 0) (fill_at k l))
      ∙ shares_sum h a os s (largest_total h a os) (reached_offered s (largest_total h a os) (largest_reached s))
