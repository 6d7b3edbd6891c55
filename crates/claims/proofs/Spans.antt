-- Tests that pass on a span of the grid. The best price that passes is the span's end for the side, and two spans have a span in
-- common; so where each of a round's tests is a span, its prices are ends of spans.
use mathlib.Core.Bool.{Bool, true, false, ◌&&◌, cond}
use mathlib.Core.Option.{none, some}
use mathlib.Core.Path.{◌≡◌, refl}
use Prim.Native.Nat.{ℕ, max, min, ◌≤◌, ◌<◌}
use native.Mathlib.Omega.{arith}
use lib.Dec.{leb}
use borrow.Author.Tests.{leb-true, leb-false, le-leb, lt-leb}
use Rattle.claims.proofs.Best.{best_is, none_is}
use Rattle.claims.proofs.Places.{same_test}
use Rattle.claims.specs.Crossing.{end_for, span_end, low_for, high_for}
use Rattle.rules.proofs.Grid.{OnGrid, both}
use Rattle.rules.specs.Grid.{last_price, best_among}
use Rattle.rules.specs.Limits.{allows}
use Rattle.rules.specs.declared.Side.{Side}
use Rattle.rules.specs.declared.Side.TheVariants.{Buy, Sell}

-- of the prices of the grid those from low to high pass the test
pub record Span (P : ℕ → Bool) (low high : ℕ) : Type 0 where
  pub tells : (p : ℕ) → OnGrid p → P p ≡ (leb low p && leb p high)

pub end_some : (s : Side) (low high : ℕ) → low ≤ high → span_end s low high ≡ some (end_for s low high)
unfolding span_end
end_some s low high h = rw (le-leb low high h)

module _ {P : ℕ → Bool} {low high : ℕ} (span : Span P low high) (first : 1 ≤ low) (last : high ≤ last_price) where
  inside : (p : ℕ) → low ≤ p → p ≤ high → P p ≡ true
  inside p l h = rw (span.tells p (omega arith, omega arith), le-leb low p l, le-leb p high h)

  below : (p : ℕ) → OnGrid p → p < low → P p ≡ false
  below p on l = rw (span.tells p on, lt-leb low p l)

  above : (p : ℕ) → OnGrid p → high < p → P p ≡ false
  above p on l = rw (span.tells p on, lt-leb p high l) (and_out (leb low p))
    where
      and_out : (t : Bool) → (t && false) ≡ false
      and_out true = refl
      and_out false = refl

  best_at_end : (s : Side) → low ≤ high → best_among s P last_price ≡ some (end_for s low high)
  best_at_end Buy h =
      best_is Buy P high
      (record { on = (omega arith, last); passes = inside high h (omega arith); only = λ q on better. above q on better })
  best_at_end Sell h =
      best_is Sell P low
      (record { on = (first, omega arith); passes = inside low (omega arith) h; only = λ q on better. below q on better })

  -- the best price that passes is the span's end
  pub best_of_span : (s : Side) → best_among s P last_price ≡ span_end s low high
  unfolding span_end
  best_of_span s = go (leb low high) refl
    where
      empty : high < low → (q : ℕ) → OnGrid q → P q ≡ false
      empty h q on = either (leb q high) refl
        where
          either : (t : Bool) → leb q high ≡ t → P q ≡ false
          either true e = below q on (omega (arith, leb-true q high e))
          either false e = above q on (leb-false q high e)

      go : (t : Bool) → leb low high ≡ t → best_among s P last_price ≡ cond t (some (end_for s low high)) none
      go true e = best_at_end s (leb-true low high e)
      go false e = none_is s P (empty (leb-false low high e))

-- ---- Spans in common

abbrev pub within : ℕ → ℕ → ℕ → Bool
within low high p = leb low p && leb p high

pub within_true : (low high p : ℕ) → within low high p ≡ true → (low ≤ p) × (p ≤ high)
within_true low high p e =
    let t = both {a = leb low p} e in
    (leb-true low p t.0, leb-true p high t.1)

pub within_is : (low high p : ℕ) → low ≤ p → p ≤ high → within low high p ≡ true
within_is low high p l h = rw (le-leb low p l, le-leb p high h)

common : (a b c d p : ℕ) → (within a b p && within c d p) ≡ within (max a c) (min b d) p
common a b c d p =
    same_test _ _
    (λ e.
    let t = both {a = within a b p} e in
    let x = within_true a b p t.0 in
    let y = within_true c d p t.1 in
    within_is (max a c) (min b d) p (omega arith) (omega arith))
    (λ e.
    let x = within_true (max a c) (min b d) p e in
    rw (within_is a b p (omega arith) (omega arith), within_is c d p (omega arith) (omega arith)))

pub both_span : {P Q : ℕ → Bool} {a b c d : ℕ} → Span P a b → Span Q c d → Span (λ p. P p && Q p) (max a c) (min b d)
both_span {P} {Q} {a} {b} {c} {d} f g = record { tells = λ p on. rw (f.tells p on, g.tells p on) (common a b c d p) }

pub allows_span : (s : Side) (limit : ℕ) → Span (λ p. allows s limit p) (low_for s limit) (high_for s limit)
allows_span Buy limit = record { tells = λ p on. rw (le-leb 1 p on.0) }
allows_span Sell limit = record { tells = λ p on. rw (le-leb p last_price on.1) (and_in (leb limit p)) }
  where
    and_in : (t : Bool) → t ≡ (t && true)
    and_in true = refl
    and_in false = refl
