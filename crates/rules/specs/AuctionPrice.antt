-- Clauses 5.1–5.12 of docs/RULES.md: demand, supply and volume, the potential prices and the auction price. The
-- orders os stand at their limits in force.
use Rattle.std.specs.Prelude.{Bool, true, ◌&&◌, cond, List, ℕ, max, min, leb, ltb, eqb}
use Rattle.std.proofs.Math.Option.{Option, none, some}
use Rattle.rules.specs.Grid.{Scan, over_grid, found, or_else}
use Rattle.rules.specs.Limits.{pieces_at}
use Rattle.rules.specs.Sheet.{D, H, I}
use Rattle.rules.specs.declared.Auctioned.{Auctioned}
use Rattle.rules.specs.declared.Heading.{Heading}
use Rattle.rules.specs.declared.Side.{Side}
use Rattle.rules.specs.declared.Side.TheVariants.{Buy, Sell}
use Rattle.rules.specs.declared.Situation.{Situation}
use Rattle.rules.specs.declared.Situation.TheVariants.{Crossed, SupplyAlone, DemandAlone, Apart, Empty}
use Rattle.rules.specs.declared.Standing.{Standing}

-- ---- The curves

-- [5.1] The remaining pieces of a side's orders at a price, all-or-none orders like any other.
abbrev pub curve : Side → List Standing → ℕ → ℕ
curve s os p = pieces_at (λ k. true) s os p

-- [5.1] Demand is the curve of the buys, supply that of the sells.
abbrev pub demand : List Standing → ℕ → ℕ
demand = curve Buy

abbrev pub supply : List Standing → ℕ → ℕ
supply = curve Sell

-- [5.2] The price lies in D..H.
abbrev pub in_band : Heading → ℕ → Bool
in_band h p = leb (D h) p && leb p (H h)

-- [5.3] What a price has in a round: whether it lies in D..H, its demand and its supply.
pub record Level : Type 0 where
  pub within : Bool
  pub demand : ℕ
  pub supply : ℕ

unfoldable pub level : Heading → List Standing → ℕ → Level
level h os p = record { within = in_band h p; demand = demand os p; supply = supply os p }

-- [5.3] The volume of a price is the smaller of its demand and its supply.
abbrev pub volume : Level → ℕ
volume v = min v.demand v.supply

-- [5.3] What a price carries in a round is its volume.
abbrev pub carries : Heading → List Standing → ℕ → ℕ
carries h os p = volume (level h os p)

-- ---- The auction price

-- [5.4] The situation and the auction price.
pub record Auction : Type 0 where
  pub situation : ℕ
  pub price : ℕ

-- [5.4] The number of a situation (5.10, 5.11).
abbrev pub situation_number : Situation → ℕ
situation_number Crossed = 0
situation_number SupplyAlone = 1
situation_number DemandAlone = 2
situation_number Apart = 3
situation_number Empty = 4

-- [5.4] The same, as the engine hands it on.
abbrev pub auctioned : Auctioned → Auction
auctioned a = record { situation = a.situation; price = a.price.0 }

-- [5.5] The price from l to r nearest x.
abbrev pub nearest : ℕ → ℕ → ℕ → ℕ
nearest l r x = max l (min r x)

-- [5.5] The same between two prices that were looked for. In situation 0 both are always found (the claim `Nearest`);
-- the other cases are there because a search of the grid may give none.
abbrev pub nearest_found : Option ℕ → Option ℕ → ℕ → ℕ
nearest_found (some l) (some r) x = nearest l r x
nearest_found (some l) none x = x
nearest_found none r x = x

-- Of the prices of a round, by their levels. The auction of a round, below, has the prices of the whole grid.
module _ (prices : Scan Level) where
  -- [5.6] The highest, or the lowest, price whose level passes a test.
  abbrev pub highest : (Level → Bool) → Option ℕ
  highest = prices.best Buy

  abbrev pub lowest : (Level → Bool) → Option ℕ
  lowest = prices.best Sell

  -- [5.6] The greatest volume of any price; the prices that have it are the maximisers.
  abbrev pub greatest_volume : ℕ
  greatest_volume = prices.greatest volume

  abbrev pub maximiser : Level → Bool
  maximiser v = eqb (volume v) greatest_volume

  -- [5.7] Potential prices are the maximisers in the band, or all maximisers where it has none.
  abbrev pub potential : Level → Bool
  potential v = cond (found (highest (λ w. w.within && maximiser w))) (v.within && maximiser v) (maximiser v)

  -- [5.8] a is the lowest potential price, b the highest.
  abbrev pub a : Option ℕ
  a = lowest potential

  abbrev pub b : Option ℕ
  b = highest potential

  -- [5.9] l is the highest potential price with more demand than supply, or a where there is none.
  abbrev pub l : Option ℕ
  l = or_else (highest (λ v. potential v && ltb v.supply v.demand)) a

  -- [5.9] r is the lowest potential price with more supply than demand, or b where there is none.
  abbrev pub r : Option ℕ
  r = or_else (lowest (λ v. potential v && ltb v.demand v.supply)) b

  -- [5.10] Situation 0: of the prices from l to r the one nearest the last purchase price.
  abbrev pub crossed : ℕ → Auction
  crossed last = record { situation = 0; price = nearest_found l r last }

-- [5.11] Situations 1–4, by the highest price of the band with demand and then the lowest with supply, or none. 1, supply alone:
-- its lowest price, but at most I. 2, demand alone: its highest price, but at least I. 3, both: of the prices from
-- one to the other the nearest the last purchase price. 4, neither: the last purchase price.
unfoldable pub uncrossed : Heading → ℕ → Option ℕ → Option ℕ → Auction
uncrossed h last none (some supplied) = record { situation = 1; price = min supplied (I h) }
uncrossed h last (some demanded) none = record { situation = 2; price = max demanded (I h) }
uncrossed h last (some demanded) (some supplied) = record {
  situation = 3;
  price = nearest demanded supplied last;
}
uncrossed h last none none = record { situation = 4; price = last }

-- [5.12] Situation 0 where some price has volume; else one of 1–4, for which only the prices of the band count.
unfoldable pub auction_by : Scan Level → Heading → ℕ → Auction
auction_by prices h last =
    cond (ltb 0 (greatest_volume prices))
    (crossed prices last)
    (uncrossed h last
    (highest prices (λ v. v.within && ltb 0 v.demand))
    (lowest prices (λ v. v.within && ltb 0 v.supply)))

-- [5.12] The auction of a round, over the whole grid.
unfoldable pub auction : Heading → ℕ → List Standing → Auction
auction h last os = auction_by (over_grid (level h os)) h last
