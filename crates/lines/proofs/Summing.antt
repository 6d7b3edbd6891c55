-- A sum that a loop adds up, part by part. Each part has less than `room`, so the sum of 120 of them has room in 64 bits.
use mathlib.Core.List.{List, ◌∷◌}
use mathlib.Core.Path.{◌≡◌, refl, sym}
use Prim.Native.Nat.{ℕ, zero, suc, ◌+◌, ◌*◌, ◌≤◌, ◌<◌, zero-le}
use native.Mathlib.Numerals.{add-one}
use native.Mathlib.Omega.{arith}
use lib.ListN.{length}
use Rattle.rules.specs.Lists.{sum_to}
use Rattle.sorting.specs.Sorted.{item}
use Rattle.std.proofs.lemmas.List.Recursion.{is_sum_by}
use Rattle.std.specs.List.{sum_by}
use Rattle.lines.specs.Keys.{room, amount_in}
use Rattle.lines.specs.Lines.{up_to}

-- ---- The library's sum over a list is the sum by number

sum_first : (f : ℕ → ℕ) (n : ℕ) → sum_to f (suc n) ≡ f 0 + sum_to (λ j. f (suc j)) n
unfolding sum_to
sum_first f zero = omega arith
sum_first f (suc n) = omega (arith, sum_first f n)

pub sum_listed : (f : ℕ → ℕ) (xs : List ℕ) → sum_by f xs ≡ sum_to (λ j. f (item xs j)) (length xs)
unfolding sum_to
sum_listed f xs =
    sym
    (is_sum_by (λ ys. sum_to (λ j. f (item ys j)) (length ys)) f refl
    (λ x ys. sum_first (λ j. f (item (x ∷ ys) j)) (length ys)) xs)

-- ---- A sum so far

-- the first i of n parts are summed
pub record SumSoFar (part : ℕ → ℕ) (n i sum : ℕ) : Type 0 where
  pub within : i ≤ n
  pub is : sum ≡ sum_to part i
  pub most : sum ≤ room * i

pub sum_none : (part : ℕ → ℕ) (n : ℕ) → SumSoFar part n 0 0
unfolding sum_to
sum_none part n = record { within = zero-le; is = refl; most = zero-le }

module _ {part : ℕ → ℕ} {n i sum : ℕ} (so : SumSoFar part n i sum) where
  pub sum_next : i < n → {x : ℕ} → x ≡ part i → x < room → SumSoFar part n (i + 1) (sum + x)
  unfolding sum_to
  sum_next l {x} e small = record { within = omega arith; is = rw (add-one i, e, so.is); most = omega (arith, so.most) }

-- ---- The pieces of a line's first orders

abbrev pub GoneBy : List ℕ → ℕ → ℕ → Type 0
GoneBy line i pieces = SumSoFar (λ j. amount_in (item line j)) (length line) i pieces

up_to_room : (line : List ℕ) (i : ℕ) → up_to line i ≤ room * i
unfolding sum_to
up_to_room line zero = zero-le
up_to_room line (suc i) = omega (arith, up_to_room line i)

pub gone_by : (line : List ℕ) {i pieces : ℕ} → i ≤ length line → pieces ≡ up_to line i → GoneBy line i pieces
gone_by line {i} few e = record { within = few; is = e; most = omega (arith, up_to_room line i) }
