-- Laws of sums by number: parts that are equal, or at most as large, give sums that are; with a bound on each part the sum has one.
use mathlib.Core.Path.{◌≡◌, refl}
use Prim.Native.Nat.{ℕ, zero, suc, ◌*◌, ◌≤◌, ◌<◌, zero-le}
use native.Mathlib.Nat.{add-le-add, mul-suc}
use native.Mathlib.Omega.{arith}
use Rattle.rules.specs.Lists.{sum_to}

module _ (f g : ℕ → ℕ) where
  pub sum_same : (n : ℕ) → ((j : ℕ) → j < n → f j ≡ g j) → sum_to f n ≡ sum_to g n
  unfolding sum_to
  sum_same zero same = refl
  sum_same (suc n) same = rw (sum_same n (λ j h. same j (omega arith)), same n (omega arith))

  pub sum_le : (n : ℕ) → ((j : ℕ) → j < n → f j ≤ g j) → sum_to f n ≤ sum_to g n
  unfolding sum_to
  sum_le zero most = zero-le
  sum_le (suc n) most = add-le-add (sum_le n (λ j h. most j (omega arith))) (most n (omega arith))

pub sum_each : (f : ℕ → ℕ) (most n : ℕ) → ((j : ℕ) → j < n → f j ≤ most) → sum_to f n ≤ most * n
unfolding sum_to
sum_each f most zero each = zero-le
sum_each f most (suc n) each = rw (mul-suc most n) (add-le-add (sum_each f most n (λ j h. each j (omega arith))) (each n (omega arith)))
