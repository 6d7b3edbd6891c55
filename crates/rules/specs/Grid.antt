-- Clauses 1.2–1.4 of docs/RULES.md: the grid of prices, and what is looked for on it.
use Rattle.std.specs.Prelude.{Bool, true, false, ◌&&◌, cond, ℕ, zero, suc, ◌+◌, ◌-◌, max, leb, ltb}
use Rattle.std.proofs.Math.Option.{Option, none, some}
use Rattle.rules.specs.declared.Side.{Side}
use Rattle.rules.specs.declared.Side.TheVariants.{Buy, Sell}

-- [1.2] The grid: the prices 1 to 1,000,000.
abbrev pub last_price : ℕ
last_price = 1000000

unfoldable pub on_grid : ℕ → Bool
on_grid p = leb 1 p && leb p last_price

-- [1.3] Below D a price becomes D, above H it becomes H.
unfoldable pub moved_into : ℕ → ℕ → ℕ → ℕ
moved_into D H p = cond (ltb p D) D (cond (ltb H p) H p)

-- ---- Looking through the grid

-- [1.4] The k-th price of the grid, counted from the worst for a side. The best price is the highest for the buys,
-- the lowest for the sells.
abbrev pub nth : Side → ℕ → ℕ
nth Buy k = k
nth Sell k = last_price + 1 - k

-- [1.4] Among the k worst prices for side s the best one that passes the test, or none.
unfoldable pub best_among : Side → (ℕ → Bool) → ℕ → Option ℕ
best_among s P zero = none
best_among s P (suc k) = cond (P (nth s (suc k))) (some (nth s (suc k))) (best_among s P k)

-- [1.4] The greatest of f 1, .., f k.
unfoldable pub greatest_to : (ℕ → ℕ) → ℕ → ℕ
greatest_to f zero = 0
greatest_to f (suc k) = max (greatest_to f k) (f (suc k))

-- [1.4] What is looked for among prices, each judged by what it has (an A): the best price for a side that passes a
-- test, or none, and the greatest value.
pub record Scan (A : Type 0) : Type 0 where
  pub best : Side → (A → Bool) → Option ℕ
  pub greatest : (A → ℕ) → ℕ

-- [1.4] Among all prices of the grid, where price p has f p.
unfoldable pub over_grid : {A : Type 0} → (ℕ → A) → Scan A
over_grid f = record {
  best = λ s P. best_among s (λ p. P (f p)) last_price;
  greatest = λ v. greatest_to (λ p. v (f p)) last_price;
}

-- [1.4] Whether a price was found.
abbrev pub found : Option ℕ → Bool
found (some p) = true
found none = false

-- [1.4] The price that was found, or another if none was.
abbrev pub or_else : Option ℕ → Option ℕ → Option ℕ
or_else (some p) other = some p
or_else none other = other
