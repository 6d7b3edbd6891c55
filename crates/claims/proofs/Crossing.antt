-- The auction of a round from four prices. At least v pieces of a side stand up to one price, its limit of piece v; so the test of
-- every kind of price in the rules passes on a span of the grid, and its best price is an end of that span. With V the greatest
-- volume, the maximisers run from the sells' limit of piece V to the buys', and l and r are held by the limits of piece V + 1.
use mathlib.Core.Bool.{Bool, true, false, ◌&&◌, cond}
use mathlib.Core.List.{List}
use mathlib.Core.Option.{none, some}
use mathlib.Core.Path.{◌≡◌, refl, sym, ap, ◌∙◌}
use Prim.Native.Nat.{ℕ, suc, ◌+◌, ◌-◌, max, min, ◌≤◌, ◌<◌}
use native.Mathlib.Decide.{dec_le}
use native.Mathlib.Nat.{le_refl}
use native.Mathlib.Omega.{arith}
use lib.Dec.{leb, ltb, eqb}
use borrow.Author.Tests.{leb-true, leb-false, le-leb, lt-leb, lt-ltb, le-ltb, eqb-true, eq-eqb}
use Rattle.rules.proofs.Grid.{OnGrid, both}
use Rattle.rules.proofs.Scan.{greatest_ge, greatest_le}
use Rattle.rules.proofs.Tests.{by_test}
use Rattle.rules.specs.AuctionPrice.{curve, in_band, Level, level, volume, highest, maximiser, potential, crossed, uncrossed, auction_by, auction}
use Rattle.rules.specs.Grid.{last_price, nth, over_grid, found, or_else}
use Rattle.rules.specs.Limits.{allows}
use Rattle.rules.specs.Sheet.{D, H}
use Rattle.rules.specs.declared.Heading.{Heading}
use Rattle.rules.specs.declared.Side.{Side}
use Rattle.rules.specs.declared.Side.TheVariants.{Buy, Sell}
use Rattle.rules.specs.declared.Standing.{Standing}
use Rattle.claims.proofs.Curves.{places_fall}
use Rattle.claims.specs.Price.{levels}
use Rattle.claims.proofs.Places.{price_placed, placed_on, same_test, same_leb}
use Rattle.claims.proofs.PiecePlaces.{piece_place_le, up_to_piece_place}
use Rattle.claims.specs.Places.{place_of, piece_place}
use Rattle.claims.proofs.Spans.{Span, end_some, best_of_span, within_is, both_span, allows_span}
use Rattle.claims.specs.Crossing.{greatest, piece_limit, end_for, span_end, low_for, high_for, end_within, held, balanced, crossed_at}

-- ---- The auction from four prices

-- the price lies in low..high, and in the band where that has one of them
pub record Potential (h : Heading) (low high p : ℕ) : Type 0 where
  pub from : low ≤ p
  pub to : p ≤ high
  pub banded : max (D h) low ≤ min (H h) high → in_band h p ≡ true

balanced_ge : (low high x y last : ℕ) → low ≤ high → low ≤ balanced low high x y last
balanced_ge low high x y last run = omega arith

balanced_le : (low high x y last : ℕ) → low ≤ high → balanced low high x y last ≤ high
balanced_le low high x y last run = omega arith

pub crossed_potential : (h : Heading) (a b x y last : ℕ) → a ≤ b → Potential h a b (crossed_at h a b x y last)
unfolding crossed_at
crossed_potential h a b x y last run =
    by_test (Potential h a b) (leb (max (D h) a) (min (H h) b))
    (λ e.
    let l = leb-true (max (D h) a) (min (H h) b) e in
    common _ (balanced_ge (max (D h) a) (min (H h) b) x y last l) (balanced_le (max (D h) a) (min (H h) b) x y last l))
    (λ e. record {
      from = balanced_ge a b x y last run;
      to = balanced_le a b x y last run;
      banded = λ l. absurd (omega (arith, leb-false (max (D h) a) (min (H h) b) e));
    })
  where
    common : (p : ℕ) → max (D h) a ≤ p → p ≤ min (H h) b → Potential h a b p
    common p f t = record {
      from = omega arith;
      to = omega arith;
      banded = λ l. within_is (D h) (H h) p (omega arith) (omega arith);
    }

-- ---- The limit of a side's piece v

module _ (os : List Standing) where
  falls : (s : Side) (j k : ℕ) → j ≤ k → curve s os (nth s k) ≤ curve s os (nth s j)
  falls s j k l = places_fall (λ i. true) s os j k l

  nearer : (s : Side) (k r : ℕ) → OnGrid k → r ≤ last_price → leb k r ≡ allows s (nth s r) (nth s k)
  nearer Buy k r on h = refl
  nearer Sell k r on h = same_leb k r (last_price + 1 - r) (last_price + 1 - k) (λ l. omega arith) (λ l. omega arith)

  -- at least v pieces stand just where it allows
  pub piece_stands : (s : Side) (v p : ℕ) → OnGrid p → leb v (curve s os p) ≡ allows s (piece_limit os s v) p
  unfolding piece_limit
  piece_stands s v p on =
      let F : ℕ → ℕ = λ k. curve s os (nth s k) in
      let k : ℕ = place_of s p in
      rw (← price_placed s p on)
      (up_to_piece_place F (falls s) v k (placed_on s p on) ∙ nearer s k (piece_place F v) (placed_on s p on) (piece_place_le F v))

  pub buys_limit : (v : ℕ) → piece_limit os Buy v ≤ last_price
  unfolding piece_limit
  buys_limit v = piece_place_le (λ k. curve Buy os (nth Buy k)) v

  pub sells_limit : (v : ℕ) → 1 ≤ piece_limit os Sell v
  unfolding piece_limit
  sells_limit v = omega (arith, piece_place_le (λ k. curve Sell os (nth Sell k)) v)

-- ---- The greatest volume

module _ (h : Heading) (os : List Standing) where
  -- the greatest volume
  abbrev top : ℕ
  top = greatest h os

  pub volume_le : (p : ℕ) → OnGrid p → volume (level h os p) ≤ top
  unfolding over_grid
  volume_le p on = greatest_ge (λ q. volume (level h os q)) last_price p on.0 on.1

  -- v pieces are carried somewhere just where the limits of piece v cross
  pub crosses : (v : ℕ) → leb v top ≡ leb (piece_limit os Sell v) (piece_limit os Buy v)
  unfolding over_grid level
  crosses v =
      same_leb v top (piece_limit os Sell v) (piece_limit os Buy v)
      (λ l. cross l (dec_le (piece_limit os Sell v) (piece_limit os Buy v))) carried
    where
      apart : piece_limit os Buy v < piece_limit os Sell v → (p : ℕ) → 1 ≤ p → p ≤ last_price
          → min (curve Buy os p) (curve Sell os p) < v
      apart far p low high = go (leb p (piece_limit os Buy v)) refl
        where
          few : (s : Side) → allows s (piece_limit os s v) p ≡ false → curve s os p < v
          few s e = leb-false v (curve s os p) (piece_stands os s v p (low, high) ∙ e)

          go : (t : Bool) → leb p (piece_limit os Buy v) ≡ t → min (curve Buy os p) (curve Sell os p) < v
          go true e =
              let past : leb (piece_limit os Sell v) p ≡ false =
              lt-leb (piece_limit os Sell v) p (omega (arith, leb-true p (piece_limit os Buy v) e)) in
              omega (arith, few Sell past)
          go false e = omega (arith, few Buy e)

      cross : v ≤ top → Dec (piece_limit os Sell v ≤ piece_limit os Buy v) → piece_limit os Sell v ≤ piece_limit os Buy v
      cross l (yes c) = c
      cross l (no c) =
          let far : piece_limit os Buy v < piece_limit os Sell v = omega (arith, c) in
          let some : min (curve Buy os 1) (curve Sell os 1) < v = apart far 1 (omega arith) (omega arith) in
          let most : top ≤ v - 1 =
          greatest_le (λ q. volume (level h os q)) last_price (v - 1) (λ p low high. omega (arith, apart far p low high)) in
          absurd (omega arith)

      carried : piece_limit os Sell v ≤ piece_limit os Buy v → v ≤ top
      carried c =
          let p : ℕ = piece_limit os Buy v in
          let on : OnGrid p = (omega (arith, sells_limit os v), buys_limit os v) in
          let buys : v ≤ curve Buy os p = leb-true v (curve Buy os p) (piece_stands os Buy v p on ∙ le-leb p p (le_refl p)) in
          let sells : v ≤ curve Sell os p =
          leb-true v (curve Sell os p) (piece_stands os Sell v p on ∙ le-leb (piece_limit os Sell v) p c) in
          omega (arith, greatest_ge (λ q. volume (level h os q)) last_price p on.0 on.1)

  -- ---- Spans

  abbrev limit_of : Side → ℕ → ℕ
  limit_of s v = piece_limit os s v

  -- the pieces of side s that a level has
  abbrev pieces_of : Side → Level → ℕ
  pieces_of Buy v = v.demand
  pieces_of Sell v = v.supply

  abbrev other : Side → Side
  other Buy = Sell
  other Sell = Buy

  -- side s has more pieces there than the other
  abbrev more : Side → Level → Bool
  more s v = ltb (pieces_of (other s) v) (pieces_of s v)

  band_span : Span (λ p. (level h os p).within) (D h) (H h)
  unfolding level
  band_span = record { tells = λ p on. refl }

  -- v pieces of a side
  side_span : (s : Side) (v : ℕ) → Span (λ p. leb v (pieces_of s (level h os p))) (low_for s (limit_of s v)) (high_for s (limit_of s v))
  unfolding level
  side_span Buy v = record { tells = λ p on. piece_stands os Buy v p on ∙ (allows_span Buy (limit_of Buy v)).tells p on }
  side_span Sell v = record { tells = λ p on. piece_stands os Sell v p on ∙ (allows_span Sell (limit_of Sell v)).tells p on }

  -- the greatest volume is carried where both sides have so many pieces
  at_greatest : (d s g : ℕ) → min d s ≤ g → eqb (min d s) g ≡ (leb g s && leb g d)
  at_greatest d s g m =
      same_test _ _
      (λ e. let q = eqb-true (min d s) g e in rw (le-leb g s (omega arith), le-leb g d (omega arith)))
      (λ e.
      let t = both {a = leb g s} e in
      eq-eqb (min d s) g (omega (arith, leb-true g s t.0, leb-true g d t.1)))

  pub maximisers : Span (λ p. maximiser (levels h os) (level h os p)) (limit_of Sell top) (limit_of Buy top)
  unfolding level
  maximisers = record {
    tells = λ p on.
        at_greatest (curve Buy os p) (curve Sell os p) top (volume_le p on)
        ∙ rw (piece_stands os Sell top p on, piece_stands os Buy top p on);
  }

  -- ---- Situations 1–4

  pub best_within : (s : Side) → (levels h os).best s (λ v. v.within && ltb 0 (pieces_of s v)) ≡ end_within h s (limit_of s 1)
  unfolding over_grid
  best_within s = best_of_span (both_span band_span (side_span s 1)) (first s) (last s) s
    where
      first : (s : Side) → 1 ≤ max (D h) (low_for s (limit_of s 1))
      first Buy = omega arith
      first Sell = omega (arith, sells_limit os 1)

      last : (s : Side) → min (H h) (high_for s (limit_of s 1)) ≤ last_price
      last Buy = omega (arith, buys_limit os 1)
      last Sell = omega arith

  -- ---- Situation 0

  -- at a price of the greatest volume a side has more than the other where it has more than that volume
  more_is : (s : Side) (v : Level) → volume v ≡ top → more s v ≡ leb (suc top) (pieces_of s v)
  more_is Buy v e = same_leb (suc v.supply) v.demand (suc top) v.demand (λ l. omega arith) (λ l. omega arith)
  more_is Sell v e = same_leb (suc v.demand) v.supply (suc top) v.supply (λ l. omega arith) (λ l. omega arith)

  -- every potential price carries the greatest volume
  potential_carries : (v : Level) → potential (levels h os) v ≡ true → volume v ≡ top
  potential_carries v = go (found (highest (levels h os) (λ w. w.within && maximiser (levels h os) w)))
    where
      go : (t : Bool) → cond t (v.within && maximiser (levels h os) v) (maximiser (levels h os) v) ≡ true → volume v ≡ top
      go true e = eqb-true (volume v) top (both {a = v.within} e).1
      go false e = eqb-true (volume v) top e

  -- up to the limit of side s, or else the other end
  or_held : (s : Side) (low high x : ℕ) → 1 ≤ low → low ≤ high → high ≤ last_price
      → or_else (span_end s (max low (low_for s x)) (min high (high_for s x))) (some (end_for (other s) low high)) ≡ some (held s low high x)
  unfolding span_end
  or_held Buy low high x first h last = go (leb (max low 1) (min high x)) refl
    where
      go : (t : Bool) → leb (max low 1) (min high x) ≡ t → or_else (cond t (some (min high x)) none) (some low) ≡ some (held Buy low high x)
      go true e = ap some (omega (arith, leb-true (max low 1) (min high x) e))
      go false e = ap some (omega (arith, leb-false (max low 1) (min high x) e))
  or_held Sell low high x first h last = go (leb (max low x) (min high last_price)) refl
    where
      go : (t : Bool) → leb (max low x) (min high last_price) ≡ t
          → or_else (cond t (some (max low x)) none) (some high) ≡ some (held Sell low high x)
      go true e = ap some (omega (arith, leb-true (max low x) (min high last_price) e))
      go false e = ap some (omega (arith, leb-false (max low x) (min high last_price) e))

  -- the potential prices run from low to high
  pub record PotentialFrom (low high : ℕ) : Type 0 where
    pub first : 1 ≤ low
    pub some_price : low ≤ high
    pub last : high ≤ last_price
    pub span : Span (λ p. potential (levels h os) (level h os p)) low high

  module _ {low high : ℕ} (f : PotentialFrom low high) where
    more_span : (s : Side)
        → Span (λ p. potential (levels h os) (level h os p) && more s (level h os p))
        (max low (low_for s (limit_of s (suc top)))) (min high (high_for s (limit_of s (suc top))))
    more_span s = record { tells = λ p on. go p (potential (levels h os) (level h os p)) refl ∙ whole.tells p on }
      where
        whole : Span (λ p. potential (levels h os) (level h os p) && leb (suc top) (pieces_of s (level h os p)))
            (max low (low_for s (limit_of s (suc top)))) (min high (high_for s (limit_of s (suc top))))
        whole = both_span f.span (side_span s (suc top))

        go : (p : ℕ) (t : Bool) → potential (levels h os) (level h os p) ≡ t
            → (t && more s (level h os p)) ≡ (t && leb (suc top) (pieces_of s (level h os p)))
        go p true e = more_is s (level h os p) (potential_carries (level h os p) e)
        go p false e = refl

    best_more : (s : Side)
        → (levels h os).best s (λ v. potential (levels h os) v && more s v)
        ≡ span_end s (max low (low_for s (limit_of s (suc top)))) (min high (high_for s (limit_of s (suc top))))
    unfolding over_grid
    best_more s = best_of_span (more_span s) (omega (arith, f.first)) (omega (arith, f.last)) s

    pub best_potential : (s : Side) → (levels h os).best s (potential (levels h os)) ≡ some (end_for s low high)
    unfolding over_grid
    best_potential s = best_of_span f.span f.first f.last s ∙ end_some s low high f.some_price

    -- l for the buys, r for the sells
    pub more_end : (s : Side)
        → or_else ((levels h os).best s (λ v. potential (levels h os) v && more s v)) ((levels h os).best (other s) (potential (levels h os)))
        ≡ some (held s low high (limit_of s (suc top)))
    more_end s =
        rw (best_more s, best_potential (other s))
        (or_held s low high (limit_of s (suc top)) f.first f.some_price f.last)

    crossed_from : (last : ℕ)
        → crossed (levels h os) last
        ≡ record { situation = 0; price = balanced low high (limit_of Buy (suc top)) (limit_of Sell (suc top)) last }
    crossed_from last = rw (more_end Buy, more_end Sell)

  -- whether the band has a maximiser
  abbrev band_has : Bool
  band_has = found (highest (levels h os) (λ v. v.within && maximiser (levels h os) v))

  -- the maximisers run from a to b
  abbrev pub lowest_maximiser : ℕ
  lowest_maximiser = limit_of Sell top

  abbrev pub highest_maximiser : ℕ
  highest_maximiser = limit_of Buy top

  pub maximisers_run : lowest_maximiser ≤ highest_maximiser
  maximisers_run = leb-true lowest_maximiser highest_maximiser (sym (crosses top) ∙ le-leb top top (le_refl top))

  band_has_lem : band_has ≡ leb (max (D h) lowest_maximiser) (min (H h) highest_maximiser)
  unfolding over_grid span_end
  band_has_lem =
      ap found
      (best_of_span (both_span band_span maximisers) (omega (arith, sells_limit os top)) (omega (arith, buys_limit os top)) Buy)
      ∙ found_if (leb (max (D h) lowest_maximiser) (min (H h) highest_maximiser)) (min (H h) highest_maximiser)
    where
      found_if : (t : Bool) (p : ℕ) → found (cond t (some p) none) ≡ t
      found_if true p = refl
      found_if false p = refl

  -- the potential prices are the maximisers in the band, or all if it has none
  pub some_in_band : max (D h) lowest_maximiser ≤ min (H h) highest_maximiser → PotentialFrom (max (D h) lowest_maximiser) (min (H h) highest_maximiser)
  some_in_band l = record {
    first = omega (arith, sells_limit os top);
    some_price = l;
    last = omega (arith, buys_limit os top);
    span = rw (band_has_lem ∙ le-leb (max (D h) lowest_maximiser) (min (H h) highest_maximiser) l) (both_span band_span maximisers);
  }

  pub none_in_band : min (H h) highest_maximiser < max (D h) lowest_maximiser → PotentialFrom lowest_maximiser highest_maximiser
  none_in_band l = record {
    first = sells_limit os top;
    some_price = maximisers_run;
    last = buys_limit os top;
    span = rw (band_has_lem ∙ lt-leb (max (D h) lowest_maximiser) (min (H h) highest_maximiser) l) maximisers;
  }

  crossed_is : (last : ℕ)
      → crossed (levels h os) last
      ≡ record { situation = 0; price = crossed_at h lowest_maximiser highest_maximiser (limit_of Buy (suc top)) (limit_of Sell (suc top)) last }
  unfolding crossed_at
  crossed_is last =
      by_test (λ (p : ℕ). crossed (levels h os) last ≡ record { situation = 0; price = p }) (leb (max (D h) lowest_maximiser) (min (H h) highest_maximiser))
      (λ e. crossed_from (some_in_band (leb-true (max (D h) lowest_maximiser) (min (H h) highest_maximiser) e)) last)
      (λ e. crossed_from (none_in_band (leb-false (max (D h) lowest_maximiser) (min (H h) highest_maximiser) e)) last)

  -- ---- The auction

  pub auction_crossed : (last : ℕ) → 0 < top
      → auction h last os
      ≡ record { situation = 0; price = crossed_at h lowest_maximiser highest_maximiser (limit_of Buy (suc top)) (limit_of Sell (suc top)) last }
  unfolding auction auction_by
  auction_crossed last carried = rw (lt-ltb 0 top carried) (crossed_is last)

  pub auction_uncrossed : (last : ℕ) → top ≡ 0
      → auction h last os ≡ uncrossed h last (end_within h Buy (limit_of Buy 1)) (end_within h Sell (limit_of Sell 1))
  unfolding auction auction_by
  auction_uncrossed last nothing = rw (le-ltb 0 top (omega arith), best_within Buy, best_within Sell)
