-- A side can lawfully reach a total exactly where the total falls inside the stretch of none of its all-or-none orders. The stretches
-- lie apart, so below a total that splits an order the next lawful one is where the stretch begins.
use mathlib.Core.Bool.{Bool, true, false, not, ◌&&◌, ◌||◌, cond, false≢true}
use mathlib.Core.List.{List}
use mathlib.Core.Logic.{◌⊎◌, inl, inr}
use mathlib.Core.Path.{◌≡◌, refl, sym, ap, ◌∙◌}
use Prim.Native.Nat.{ℕ, ◌+◌, ◌-◌, ◌≤◌, ◌<◌, min}
use native.Mathlib.Nat.{le_refl}
use native.Mathlib.Omega.{arith}
use lib.Dec.{ltb, eqb}
use lib.ListN.{length}
use borrow.Author.Tests.{ltb-true, ltb-false, lt-ltb, le-leb, eq-eqb, ne_eqb}
use Rattle.claims.proofs.Handed.{ahead_more}
use Rattle.claims.specs.Orders.{left, side, el}
use Rattle.claims.proofs.Priority.{side_sym, side_trans, first_total}
use Rattle.claims.proofs.Totals.{every_from, or_right, reached_unsplit, largest_is}
use Rattle.rules.proofs.Grid.{both}
use Rattle.rules.specs.AuctionPrice.{Auction}
use Rattle.rules.specs.Fills.{ranked_before, offered, ahead, share, unsplit, reaches}
use Rattle.rules.specs.Limits.{same_side, numbered}
use Rattle.rules.specs.Lists.{largest_to}
use Rattle.rules.specs.declared.Heading.{Heading}
use Rattle.rules.specs.declared.Side.{Side}
use Rattle.rules.specs.declared.Standing.{Standing}

-- ---- A total and a stretch

-- an empty stretch has no total inside
none_inside : (b t : ℕ) → not (ltb b t && ltb t (b + 0)) ≡ true
none_inside b t = go (ltb b t) refl (ltb t (b + 0)) refl
  where
    go : (u : Bool) → ltb b t ≡ u → (v : Bool) → ltb t (b + 0) ≡ v → not (u && v) ≡ true
    go true e true f = absurd (omega (arith, ltb-true b t e, ltb-true t (b + 0) f))
    go true e false f = refl
    go false e v f = refl

-- a total inside a stretch of m pieces from b on gives the order neither all nor nothing
inside_part : (b m t : ℕ) → (eqb (min m (t - b)) m || eqb (min m (t - b)) 0) ≡ not (ltb b t && ltb t (b + m))
inside_part b m t = go (ltb b t) refl (ltb t (b + m)) refl
  where
    go : (u : Bool) → ltb b t ≡ u → (v : Bool) → ltb t (b + m) ≡ v → (eqb (min m (t - b)) m || eqb (min m (t - b)) 0) ≡ not (u && v)
    go true e true f =
        let l : b < t = ltb-true b t e in
        let k : t < b + m = ltb-true t (b + m) f in
        rw (ne_eqb (min m (t - b)) m (λ q. omega arith), ne_eqb (min m (t - b)) 0 (λ q. omega arith))
    go true e false f = rw (eq-eqb (min m (t - b)) m (omega (arith, ltb-true b t e, ltb-false t (b + m) f)))
    go false e v f = or_right (eqb (min m (t - b)) m) (eq-eqb (min m (t - b)) 0 (omega (arith, ltb-false b t e)))

-- the same of an order of the side or not, eligible or not, all-or-none or not
inside_unsplit : (own eligible whole : Bool) (b m t : ℕ)
    → (not own || (not whole || (eqb (cond eligible (min m (t - b)) 0) m || eqb (cond eligible (min m (t - b)) 0) 0)))
    ≡ not (ltb b t && ltb t (b + cond whole (cond (own && eligible) m 0) 0))
inside_unsplit true true true b m t = inside_part b m t
inside_unsplit true false true b m t = or_right (eqb 0 m) refl ∙ sym (none_inside b t)
inside_unsplit true e false b m t = sym (none_inside b t)
inside_unsplit false e true b m t = sym (none_inside b t)
inside_unsplit false e false b m t = sym (none_inside b t)

-- a total falls inside the stretch of so many pieces after those ahead
unfoldable pub falls_inside : ℕ → ℕ → ℕ → Bool
falls_inside ahead pieces t = ltb ahead t && ltb t (ahead + pieces)

module _ (h : Heading) (a : Auction) (os : List Standing) (s : Side) where
  abbrev n : ℕ
  n = length os

  -- the pieces of order k that must not be split: all of them, where it is all-or-none and of the side's eligible ones
  abbrev whole_pieces : ℕ → ℕ
  whole_pieces k = cond (numbered os k).all_or_none (cond (same_side s (side os k) && el h a os k) (left os k) 0) 0

  abbrev pub splits : ℕ → ℕ → Bool
  splits t k = falls_inside (ahead h a os k) (whole_pieces k) t

  unsplit_is : (t k : ℕ) → (not (same_side s (side os k)) || unsplit h a os t k) ≡ not (splits t k)
  unfolding share falls_inside
  unsplit_is t k =
      inside_unsplit (same_side s (side os k)) (el h a os k) (numbered os k).all_or_none (ahead h a os k) (left os k) t

  -- a total inside a stretch, and whose
  pub record Inside (t k : ℕ) : Type 0 where
    pub own : same_side s (side os k) ≡ true
    pub counts : el h a os k ≡ true
    pub above : ahead h a os k < t
    pub below : t < ahead h a os k + left os k
    pub kind : (numbered os k).all_or_none ≡ true

  pub inside : (t k : ℕ) → splits t k ≡ true → Inside t k
  unfolding falls_inside
  inside t k e =
      let parts = both {a = ltb (ahead h a os k) t} e in
      go (same_side s (side os k)) refl (el h a os k) refl (numbered os k).all_or_none refl
      (ltb-true (ahead h a os k) t parts.0) (ltb-true t _ parts.1)
    where
      go : (u : Bool) → same_side s (side os k) ≡ u → (v : Bool) → el h a os k ≡ v → (w : Bool) → (numbered os k).all_or_none ≡ w
          → ahead h a os k < t → t < ahead h a os k + cond w (cond (u && v) (left os k) 0) 0 → Inside t k
      go true e true f true g l m = record { own = e; counts = f; kind = g; above = l; below = m }
      go true e false f true g l m = absurd (omega arith)
      go false e v f true g l m = absurd (omega arith)
      go u e v f false g l m = absurd (omega arith)

  -- ---- Lawful totals

  reach_whole : (t : ℕ) → t ≤ offered h a os s → ((k : ℕ) → k < n → splits t k ≡ false) → reaches h a os s t ≡ true
  unfolding reaches
  reach_whole t enough none =
      rw (le-leb t (offered h a os s) enough, every_from _ n (λ k l. unsplit_is t k ∙ rw (none k l)))

  -- no lawful total falls inside the same stretch
  not_inside : (t u k : ℕ) → k < n → splits t k ≡ true → ahead h a os k < u → u ≤ t → reaches h a os s u ≡ true → ⊥
  unfolding falls_inside
  not_inside t u k l e above most lawful =
      let i = inside t k e in
      let whole : not (splits u k) ≡ true = sym (unsplit_is u k) ∙ rw i.own (reached_unsplit h a os s u k lawful l i.own) in
      let below : u < ahead h a os k + left os k = omega (arith, i.below) in
      false≢true (rw (i.kind, i.own, i.counts, lt-ltb (ahead h a os k) u above, lt-ltb u (ahead h a os k + left os k) below) at whole)

  -- where a stretch begins, no other is split
  begins : (t k : ℕ) → k < n → splits t k ≡ true → t ≤ offered h a os s → reaches h a os s (ahead h a os k) ≡ true
  begins t k l e enough =
      reach_whole (ahead h a os k) (omega (arith, i.above)) (λ j m. none j m (splits (ahead h a os k) j) refl)
    where
      i : Inside t k
      i = inside t k e

      ordered : (j : ℕ) → j < n → Inside (ahead h a os k) j → (ranked_before h os j k ≡ true) ⊎ (ranked_before h os k j ≡ true) → ⊥
      ordered j m x (inl b) = omega (arith, x.below, ahead_more h a os j k m x.counts b)
      ordered j m x (inr b) = omega (arith, x.above, ahead_more h a os k j l i.counts b)

      none : (j : ℕ) → j < n → (b : Bool) → splits (ahead h a os k) j ≡ b → splits (ahead h a os k) j ≡ false
      none j m false f = f
      none j m true f =
          let x = inside (ahead h a os k) j f in
          absurd (ordered j m x
          (first_total h (numbered os j) (numbered os k) j k
          (side_trans (side os j) s (side os k) (side_sym s (side os j) x.own) i.own)
          (λ q. let same : ahead h a os j ≡ ahead h a os k = ap (ahead h a os) q in omega (arith, x.above))))

  -- a total that splits an order goes down to where its stretch begins
  pub lowered : (t k : ℕ) → k < n → splits t k ≡ true → t ≤ offered h a os s → ahead h a os k ≡ largest_to (reaches h a os s) t
  lowered t k l e enough =
      largest_is (reaches h a os s) t (ahead h a os k) (omega (arith, (inside t k e).above)) (begins t k l e enough)
      (λ u above most. not_inside t u k l e above most)

  -- one that splits none stays
  pub stays : (t : ℕ) → ((k : ℕ) → k < n → splits t k ≡ false) → t ≤ offered h a os s → t ≡ largest_to (reaches h a os s) t
  stays t none enough =
      largest_is (reaches h a os s) t t (le_refl t) (reach_whole t enough none) (λ u above most lawful. omega arith)
