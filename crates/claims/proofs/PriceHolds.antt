-- The claims about the auction price. The potential prices are a span of the grid, from a to b. Where some price carries pieces, the
-- auction price is one of the maximisers, and it lies in the band where that has one: so no price carries more, and if it lies outside,
-- none inside carries as many. Demand exceeds supply up to the buys' limit of piece V + 1 and supply demand from the sells' on; the first
-- lies below the second, as V is the greatest volume, so l is at most r.
use mathlib.Core.Bool.{Bool, true, false, false≢true}
use mathlib.Core.List.{List}
use mathlib.Core.Logic.{◌⊎◌, inl, inr}
use mathlib.Core.Path.{◌≡◌, refl, sym, ◌∙◌}
use Prim.Native.Nat.{ℕ, suc, max, min, ◌≤◌, ◌<◌}
use native.Mathlib.Nat.{eq-or-lt_of_le}
use native.Mathlib.Omega.{arith}
use lib.Dec.{leb}
use borrow.Author.Tests.{leb-true, leb-false, lt-leb, eqb-true, eq-eqb}
use Rattle.claims.proofs.Crossing.{Potential, crossed_potential, buys_limit, sells_limit, volume_le, crosses, maximisers, PotentialFrom, best_potential, more_end, lowest_maximiser, highest_maximiser, maximisers_run, some_in_band, none_in_band, auction_crossed}
use Rattle.claims.specs.Crossing.{greatest, piece_limit, held, balanced, crossed_at}
use Rattle.claims.proofs.Spans.{within_true, within_is}
use Rattle.rules.proofs.Grid.{OnGrid, on_grid_lem, is_on_grid}
use Rattle.rules.specs.AuctionPrice.{in_band, auction, carries, nearest}
use Rattle.claims.specs.Price.{NoGaps, BestPrice, distance, Nearest}
use Rattle.rules.specs.Grid.{on_grid}
use Rattle.rules.specs.Sheet.{D, H}
use Rattle.rules.specs.declared.Heading.{Heading}
use Rattle.rules.specs.declared.Side.TheVariants.{Buy, Sell}
use Rattle.rules.specs.declared.Standing.{Standing}

-- ---- What a potential price carries

module _ (h : Heading) (os : List Standing) (price : ℕ) (potential : Potential h (lowest_maximiser h os) (highest_maximiser h os) price) where
  on : OnGrid price
  on = (omega (arith, sells_limit os (greatest h os), potential.from), omega (arith, buys_limit os (greatest h os), potential.to))

  carries_greatest : carries h os price ≡ greatest h os
  carries_greatest =
      eqb-true (carries h os price) (greatest h os)
      ((maximisers h os).tells price on ∙ within_is (lowest_maximiser h os) (highest_maximiser h os) price potential.from potential.to)

  -- where a price of the band carries as many, it lies in the band
  in_band_lem : (p : ℕ) → OnGrid p → in_band h p ≡ true → carries h os p ≡ greatest h os → in_band h price ≡ true
  in_band_lem p o inside e =
      let run = within_true (lowest_maximiser h os) (highest_maximiser h os) p (sym ((maximisers h os).tells p o) ∙ eq-eqb (carries h os p) (greatest h os) e) in
      let band = within_true (D h) (H h) p inside in
      potential.banded (omega arith)

  potential_best : BestPrice h os price
  potential_best = record {
    most = λ p e. rw carries_greatest (volume_le h os p (on_grid_lem p e));
    outside = (
      λ out p e inside.
          rw carries_greatest (fewer out p (on_grid_lem p e) inside (eq-or-lt_of_le (volume_le h os p (on_grid_lem p e)))),
      λ less. go less (in_band h price) refl,
    );
  }
    where
      fewer : in_band h price ≡ false → (p : ℕ) → OnGrid p → in_band h p ≡ true
          → (carries h os p ≡ greatest h os) ⊎ (carries h os p < greatest h os) → carries h os p < greatest h os
      fewer out p o inside (inl e) = absurd (false≢true (sym out ∙ in_band_lem p o inside e))
      fewer out p o inside (inr l) = l

      go : ((p : ℕ) → on_grid p ≡ true → in_band h p ≡ true → carries h os p < carries h os price)
          → (t : Bool) → in_band h price ≡ t → in_band h price ≡ false
      go less true e = absurd (omega (arith, less price (is_on_grid price on) e))
      go less false e = e

-- ---- The auction price

pub best_price : (h : Heading) (last : ℕ) (os : List Standing) (p : ℕ) → on_grid p ≡ true → 0 < carries h os p
    → BestPrice h os (auction h last os).price
best_price h last os p e some =
    rw (auction_crossed h os last (omega (arith, volume_le h os p (on_grid_lem p e))))
    (potential_best h os _ (crossed_potential h _ _ _ _ last (maximisers_run h os)))

-- ---- The potential prices

module _ (h : Heading) (os : List Standing) where
  run_no_gaps : {low high : ℕ} → PotentialFrom h os low high → NoGaps h os
  run_no_gaps {low} {high} f = record {
    low = low;
    high = high;
    from = best_potential h os f Sell;
    to = best_potential h os f Buy;
    between = λ p e. (
      λ passes. within_true low high p (sym (f.span.tells p (on_grid_lem p e)) ∙ passes),
      λ lies. f.span.tells p (on_grid_lem p e) ∙ within_is low high p lies.0 lies.1,
    );
  }

  pub no_gaps : NoGaps h os
  no_gaps = go (leb (max (D h) (lowest_maximiser h os)) (min (H h) (highest_maximiser h os))) refl
    where
      go : (t : Bool) → leb (max (D h) (lowest_maximiser h os)) (min (H h) (highest_maximiser h os)) ≡ t → NoGaps h os
      go true e = run_no_gaps (some_in_band h os (leb-true _ _ e))
      go false e = run_no_gaps (none_in_band h os (leb-false _ _ e))

-- ---- The price nearest the last purchase price

none_nearer : (l r last p : ℕ) → l ≤ r → l ≤ p → p ≤ r → distance (nearest l r last) last ≤ distance p last
none_nearer l r last p run from to = go (leb last l) refl (leb r last) refl
  where
    go : (t : Bool) → leb last l ≡ t → (u : Bool) → leb r last ≡ u → distance (nearest l r last) last ≤ distance p last
    go true e u f = let at : nearest l r last ≡ l = omega (arith, leb-true last l e) in rw at (omega (arith, leb-true last l e))
    go false e true f =
        let at : nearest l r last ≡ r = omega (arith, leb-true r last f) in rw at (omega (arith, leb-true r last f))
    go false e false f =
        let at : nearest l r last ≡ last = omega (arith, leb-false last l e, leb-false r last f) in rw at (omega arith)

module _ (h : Heading) (os : List Standing) (last : ℕ) where
  -- demand exceeds supply up to x, supply demand from y on
  abbrev x : ℕ
  x = piece_limit os Buy (suc (greatest h os))

  abbrev y : ℕ
  y = piece_limit os Sell (suc (greatest h os))

  apart : x < y
  apart = leb-false y x (sym (crosses h os (suc (greatest h os))) ∙ lt-leb (suc (greatest h os)) (greatest h os) (omega arith))

  run_nearest : {low high : ℕ} → PotentialFrom h os low high → Nearest h os last (balanced low high x y last)
  run_nearest {low} {high} f =
      let run : held Buy low high x ≤ held Sell low high y = omega (arith, apart, f.some_price) in
      record {
        low = held Buy low high x;
        high = held Sell low high y;
        from = more_end h os f Buy;
        to = more_end h os f Sell;
        run = run;
        within = (omega arith, lies (held Buy low high x) (held Sell low high y) run);
        none_nearer = λ p low high. none_nearer _ _ last p run low high;
      }
    where
      lies : (l r : ℕ) → l ≤ r → nearest l r last ≤ r
      lies l r run = omega arith

  pub nearest_price : (p : ℕ) → on_grid p ≡ true → 0 < carries h os p → Nearest h os last (auction h last os).price
  unfolding crossed_at
  nearest_price p e some =
      rw (auction_crossed h os last (omega (arith, volume_le h os p (on_grid_lem p e))))
      (go (leb (max (D h) (lowest_maximiser h os)) (min (H h) (highest_maximiser h os))) refl)
    where
      go : (t : Bool) → leb (max (D h) (lowest_maximiser h os)) (min (H h) (highest_maximiser h os)) ≡ t → Nearest h os last (crossed_at h (lowest_maximiser h os) (highest_maximiser h os) x y last)
      go true t = rw t (run_nearest (some_in_band h os (leb-true _ _ t)))
      go false t = rw t (run_nearest (none_in_band h os (leb-false _ _ t)))
