-- Laws of sums by number that part one order from the others: one part that is larger, one part alone, a sum in two parts.
use mathlib.Core.Bool.{Bool, true, false, cond}
use mathlib.Core.Logic.{◌⊎◌, inl, inr}
use mathlib.Core.Path.{◌≡◌, refl}
use Prim.Native.Nat.{ℕ, zero, suc, ◌+◌, ◌≤◌, ◌<◌, zero-le}
use native.Mathlib.Nat.{le_refl, eq-or-lt_of_le}
use native.Mathlib.Omega.{arith}
use Rattle.rules.proofs.Sums.{sum_le}
use Rattle.rules.specs.Lists.{sum_to}

pub sum_zero : (f : ℕ → ℕ) (n : ℕ) → ((j : ℕ) → j < n → f j ≡ 0) → sum_to f n ≡ 0
unfolding sum_to
sum_zero f zero none = refl
sum_zero f (suc n) none = omega (arith, sum_zero f n (λ j l. none j (omega arith)), none n (omega arith))

pub sum_add : (f g k : ℕ → ℕ) (n : ℕ) → ((j : ℕ) → j < n → f j ≡ g j + k j) → sum_to f n ≡ sum_to g n + sum_to k n
unfolding sum_to
sum_add f g k zero parts = refl
sum_add f g k (suc n) parts = omega (arith, sum_add f g k n (λ j l. parts j (omega arith)), parts n (omega arith))

-- what an order adds to a count, and a count of all
pub one_le : (t : Bool) → cond t 1 0 ≤ 1
one_le true = le_refl 1
one_le false = zero-le

pub ones : (n : ℕ) → sum_to (λ j. 1) n ≡ n
unfolding sum_to
ones zero = refl
ones (suc n) = rw (ones n) (omega arith)

-- below suc n is n, or below n
pub last_or_before : {k n : ℕ} → k < suc n → (k ≡ n) ⊎ (k < n)
last_or_before {k} {n} l = eq-or-lt_of_le (omega arith)

-- a sum of more parts
pub sum_longer : (f : ℕ → ℕ) (m n : ℕ) → m ≤ n → sum_to f m ≤ sum_to f n
unfolding sum_to
sum_longer f m zero h = let e : m ≡ 0 = omega arith in rw e (le_refl _)
sum_longer f m (suc n) h = go (last_or_before (omega arith)) (λ l. sum_longer f m n l)
  where
    go : (m ≡ suc n) ⊎ (m < suc n) → (m ≤ n → sum_to f m ≤ sum_to f n) → sum_to f m ≤ sum_to f n + f n
    go (inl e) before = rw e (le_refl _)
    go (inr l) before = omega (arith, before (omega arith))

-- terms that are 0 add nothing
pub sum_stops : (f : ℕ → ℕ) (m n : ℕ) → m ≤ n → ((j : ℕ) → m ≤ j → j < n → f j ≡ 0) → sum_to f n ≡ sum_to f m
unfolding sum_to
sum_stops f m zero l none = let e : m ≡ 0 = omega arith in rw e
sum_stops f m (suc n) l none = go (last_or_before (omega arith)) (λ h. sum_stops f m n h (λ j a b. none j a (omega arith)))
  where
    go : (m ≡ suc n) ⊎ (m < suc n) → (m ≤ n → sum_to f n ≡ sum_to f m) → sum_to f (suc n) ≡ sum_to f m
    go (inl q) before = rw q
    go (inr h) before = rw (before (omega arith), none n (omega arith) (omega arith)) (omega arith)

-- the part of k alone
pub sum_single : (f : ℕ → ℕ) (n k : ℕ) → k < n → ((j : ℕ) → j < n → (j ≡ k → ⊥) → f j ≡ 0) → sum_to f n ≡ f k
unfolding sum_to
sum_single f zero k l none = absurd (omega arith)
sum_single f (suc n) k l none = go (last_or_before l) (λ m. sum_single f n k m (λ j b. none j (omega arith)))
  where
    go : (k ≡ n) ⊎ (k < n) → (k < n → sum_to f n ≡ f k) → sum_to f n + f n ≡ f k
    go (inl e) before = rw e (omega (arith, sum_zero f n (λ j b. none j (omega arith) (λ q. omega arith))))
    go (inr m) before = omega (arith, before m, none n (omega arith) (λ q. omega arith))

-- at k the second sum has c more
pub sum_more : (f g : ℕ → ℕ) (n k c : ℕ) → ((j : ℕ) → j < n → f j ≤ g j) → k < n → f k + c ≤ g k → sum_to f n + c ≤ sum_to g n
unfolding sum_to
sum_more f g zero k c le l m = absurd (omega arith)
sum_more f g (suc n) k c le l m = go (last_or_before l) (λ b. sum_more f g n k c (λ j q. le j (omega arith)) b m)
  where
    go : (k ≡ n) ⊎ (k < n) → (k < n → sum_to f n + c ≤ sum_to g n) → sum_to f n + f n + c ≤ sum_to g n + g n
    go (inl e) before = omega (arith, sum_le f g n (λ j q. le j (omega arith)), rw e at m)
    go (inr b) before = omega (arith, before b, le n (omega arith))

-- at k alone the first sum may have more, by c
pub sum_most : (f g : ℕ → ℕ) (n k c : ℕ) → ((j : ℕ) → j < n → (j ≡ k → ⊥) → f j ≤ g j) → k < n → f k ≤ g k + c
    → sum_to f n ≤ sum_to g n + c
unfolding sum_to
sum_most f g zero k c le l m = absurd (omega arith)
sum_most f g (suc n) k c le l m = go (last_or_before l) (λ b. sum_most f g n k c (λ j q. le j (omega arith)) b m)
  where
    go : (k ≡ n) ⊎ (k < n) → (k < n → sum_to f n ≤ sum_to g n + c) → sum_to f n + f n ≤ sum_to g n + g n + c
    go (inl e) before = omega (arith, sum_le f g n (λ j q. le j (omega arith) (λ r. omega arith)), rw e at m)
    go (inr b) before = omega (arith, before b, le n (omega arith) (λ q. omega arith))

-- one that passes, found by trying each
pub record Passing (P : ℕ → Bool) (n : ℕ) : Type 0 where
  pub number : ℕ
  pub below : number < n
  pub passes : P number ≡ true

pub search : (P : ℕ → Bool) (n : ℕ) → ((j : ℕ) → j < n → P j ≡ false) ⊎ Passing P n
search P zero = inl (λ j l. absurd (omega arith))
search P (suc n) = go (P n) refl (search P n)
  where
    go : (t : Bool) → P n ≡ t → ((j : ℕ) → j < n → P j ≡ false) ⊎ Passing P n
        → ((j : ℕ) → j < suc n → P j ≡ false) ⊎ Passing P (suc n)
    go true e found = inr (record { number = n; below = omega arith; passes = e })
    go false e (inr p) = inr (record { number = p.number; below = omega arith; passes = p.passes })
    go false e (inl none) = inl (λ j l. case_of j (last_or_before l))
      where
        case_of : (j : ℕ) → (j ≡ n) ⊎ (j < n) → P j ≡ false
        case_of j (inl q) = rw q e
        case_of j (inr b) = none j b
