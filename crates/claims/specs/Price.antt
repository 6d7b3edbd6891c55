-- Clauses 13.3–13.5 of docs/RULES.md: the auction price against the other prices of a round. The potential prices run
-- without gaps, where some price carries pieces no price carries more than the auction price, and of the prices from
-- l to r none is nearer the last purchase price.
use Rattle.std.specs.Prelude.{true, false, List, ◌↔◌, ◌≡◌, ℕ, ◌+◌, ◌-◌, ◌≤◌, ◌<◌}
use Rattle.std.proofs.Math.Option.{some}
use Rattle.rules.specs.AuctionPrice.{in_band, Level, level, carries, potential, a, b, l, r}
use Rattle.rules.specs.Grid.{on_grid, Scan, over_grid}
use Rattle.rules.specs.declared.Heading.{Heading}
use Rattle.rules.specs.declared.Standing.{Standing}

-- [13.3] The prices of a round: the whole grid, by level.
abbrev pub levels : Heading → List Standing → Scan Level
levels h os = over_grid (level h os)

-- [13.3] Every price from a to b is a potential price, and no other is.
pub record NoGaps (h : Heading) (os : List Standing) : Type 0 where
  pub low : ℕ
  pub high : ℕ
  pub from : a (levels h os) ≡ some low
  pub to : b (levels h os) ≡ some high
  -- a price of the grid is a potential price exactly when it lies from a to b
  pub between : (p : ℕ) → on_grid p ≡ true
      → ((potential (levels h os) (level h os p) ≡ true) ↔ ((low ≤ p) × (p ≤ high)))

-- [13.4] The auction price against every price of the grid, in a round where some price carries pieces.
pub record BestPrice (h : Heading) (os : List Standing) (price : ℕ) : Type 0 where
  -- no price carries more than the auction price
  pub most : (p : ℕ) → on_grid p ≡ true → carries h os p ≤ carries h os price
  -- it lies outside the band exactly when no price inside carries as many
  pub outside : (in_band h price ≡ false)
      ↔ ((p : ℕ) → on_grid p ≡ true → in_band h p ≡ true → carries h os p < carries h os price)

-- [13.5] How far two prices lie apart.
abbrev pub distance : ℕ → ℕ → ℕ
distance p q = (p - q) + (q - p)

-- [13.5] The auction price among the prices from l to r, in such a round, after a last purchase price.
pub record Nearest (h : Heading) (os : List Standing) (last price : ℕ) : Type 0 where
  pub low : ℕ
  pub high : ℕ
  pub from : l (levels h os) ≡ some low
  pub to : r (levels h os) ≡ some high
  -- l is at most r
  pub run : low ≤ high
  -- the auction price lies there
  pub within : (low ≤ price) × (price ≤ high)
  -- and no price there is nearer the last purchase price
  pub none_nearer : (p : ℕ) → low ≤ p → p ≤ high → distance price last ≤ distance p last
