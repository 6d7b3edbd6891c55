-- Clause 1.6 of docs/RULES.md: lists and sums by number.
use Rattle.std.specs.Prelude.{Bool, true, ◌&&◌, cond, List, [], ◌∷◌, ◌++◌, ℕ, zero, suc, ◌+◌}

-- [1.6] f 0, .., f (n - 1)
unfoldable pub listed : {A : Type 0} → (ℕ → A) → ℕ → List A
listed f zero = []
listed f (suc n) = listed f n ++ (f n ∷ [])

-- [1.6] the lists f 0, .., f (n - 1), one behind the other
unfoldable pub joined_to : {A : Type 0} → (ℕ → List A) → ℕ → List A
joined_to f zero = []
joined_to f (suc n) = joined_to f n ++ f n

-- [1.6] f 0 + .. + f (n - 1)
unfoldable pub sum_to : (ℕ → ℕ) → ℕ → ℕ
sum_to f zero = 0
sum_to f (suc n) = sum_to f n + f n

-- [1.6] the test passes for each of 0, .., n - 1
unfoldable pub every_to : (ℕ → Bool) → ℕ → Bool
every_to P zero = true
every_to P (suc n) = every_to P n && P n

-- [1.6] the largest of 0, .., m that passes the test; 0 where none does
unfoldable pub largest_to : (ℕ → Bool) → ℕ → ℕ
largest_to P zero = 0
largest_to P (suc m) = cond (P (suc m)) (suc m) (largest_to P m)
