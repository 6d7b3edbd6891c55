-- Priority is a strict order in which any two orders of a side stand one before the other: it compares class of limit,
-- all-or-none and filing number, one after the other. Who is ranked before an eligible order is eligible too, as the
-- potential purchase price lies in the band.
use mathlib.Core.Bool.{Bool, true, false, ◌&&◌, ◌||◌, cond, false≢true}
use mathlib.Core.Logic.{◌⊎◌, inl, inr}
use mathlib.Core.Path.{◌≡◌, refl, sym, ◌∙◌}
use Prim.Native.Nat.{ℕ, ◌-◌, max, min, ◌≤◌, ◌<◌}
use native.Mathlib.Omega.{arith}
use lib.Dec.{ltb, eqb}
use borrow.Author.Tests.{leb-true, le-leb, ltb-true, ltb-false, lt-ltb, le-ltb, eqb-true, eq-eqb}
use Rattle.claims.proofs.Places.{same_test}
use Rattle.rules.proofs.Grid.{both, moved_within}
use Rattle.rules.specs.AuctionPrice.{Auction}
use Rattle.rules.specs.Fills.{potential_purchase, eligible, priority_limit, first_by, first_at_equal_limits, first_of}
use Rattle.rules.specs.Limits.{same_side, allows}
use Rattle.rules.specs.Sheet.{D, H}
use Rattle.rules.specs.declared.Heading.{Heading}
use Rattle.rules.specs.declared.Side.{Side}
use Rattle.rules.specs.declared.Side.TheVariants.{Buy, Sell}
use Rattle.rules.specs.declared.Standing.{Standing}

-- ---- Three numbers, compared one after the other

abbrev pub lex : ℕ → ℕ → ℕ → ℕ → ℕ → ℕ → Bool
lex x z i y w j = ltb x y || eqb x y && (ltb z w || eqb z w && ltb i j)

abbrev pub Lex : ℕ → ℕ → ℕ → ℕ → ℕ → ℕ → Type 0
Lex x z i y w j = (x < y) ⊎ ((x ≡ y) × ((z < w) ⊎ ((z ≡ w) × (i < j))))

pub lex_true : (x z i y w j : ℕ) → lex x z i y w j ≡ true → Lex x z i y w j
lex_true x z i y w j = go (ltb x y) refl (eqb x y) refl (ltb z w) refl (eqb z w) refl (ltb i j) refl
  where
    go : (a : Bool) → ltb x y ≡ a → (b : Bool) → eqb x y ≡ b → (c : Bool) → ltb z w ≡ c → (d : Bool) → eqb z w ≡ d
        → (e : Bool) → ltb i j ≡ e → (a || b && (c || d && e)) ≡ true → Lex x z i y w j
    go true l b _ c _ d _ e _ t = inl (ltb-true x y l)
    go false _ true l true m d _ e _ t = inr (eqb-true x y l, inl (ltb-true z w m))
    go false _ true l false _ true m true q t = inr (eqb-true x y l, inr (eqb-true z w m, ltb-true i j q))
    go false _ true _ false _ true _ false _ t = absurd (false≢true t)
    go false _ true _ false _ false _ e _ t = absurd (false≢true t)
    go false _ false _ c _ d _ e _ t = absurd (false≢true t)

pub lex_from : (x z i y w j : ℕ) → Lex x z i y w j → lex x z i y w j ≡ true
lex_from x z i y w j (inl l) = rw (lt-ltb x y l)
lex_from x z i y w j (inr (e, inl l)) = rw (le-ltb x y (omega arith), eq-eqb x y e, lt-ltb z w l)
lex_from x z i y w j (inr (e, inr (f, l))) =
    rw (le-ltb x y (omega arith), eq-eqb x y e, le-ltb z w (omega arith), eq-eqb z w f, lt-ltb i j l)

lex_trans : (x z i y w j u v k : ℕ) → Lex x z i y w j → Lex y w j u v k → Lex x z i u v k
lex_trans x z i y w j u v k (inl l) (inl m) = inl (omega arith)
lex_trans x z i y w j u v k (inl l) (inr (e, m)) = inl (omega arith)
lex_trans x z i y w j u v k (inr (e, l)) (inl m) = inl (omega arith)
lex_trans x z i y w j u v k (inr (e, inl l)) (inr (f, inl m)) = inr (e ∙ f, inl (omega arith))
lex_trans x z i y w j u v k (inr (e, inl l)) (inr (f, inr (g, m))) = inr (e ∙ f, inl (omega arith))
lex_trans x z i y w j u v k (inr (e, inr (g, l))) (inr (f, inl m)) = inr (e ∙ f, inl (omega arith))
lex_trans x z i y w j u v k (inr (e, inr (g, l))) (inr (f, inr (k₁, m))) = inr (e ∙ f, inr (g ∙ k₁, omega arith))

lex_irrefl : (x z i : ℕ) → Lex x z i x z i → ⊥
lex_irrefl x z i (inl l) = omega arith
lex_irrefl x z i (inr (e, inl l)) = omega arith
lex_irrefl x z i (inr (e, inr (f, l))) = omega arith

pub three : (x y : ℕ) → (x < y) ⊎ ((x ≡ y) ⊎ (y < x))
three x y = go (ltb x y) refl (ltb y x) refl
  where
    go : (t : Bool) → ltb x y ≡ t → (u : Bool) → ltb y x ≡ u → (x < y) ⊎ ((x ≡ y) ⊎ (y < x))
    go true e u f = inl (ltb-true x y e)
    go false e true f = inr (inr (ltb-true y x f))
    go false e false f = inr (inl (omega (arith, ltb-false x y e, ltb-false y x f)))

lex_total : (x z i y w j : ℕ) → (i ≡ j → ⊥) → Lex x z i y w j ⊎ Lex y w j x z i
lex_total x z i y w j other = go (three x y) (three z w) (three i j)
  where
    go : (x < y) ⊎ ((x ≡ y) ⊎ (y < x)) → (z < w) ⊎ ((z ≡ w) ⊎ (w < z)) → (i < j) ⊎ ((i ≡ j) ⊎ (j < i))
        → Lex x z i y w j ⊎ Lex y w j x z i
    go (inl l) b c = inl (inl l)
    go (inr (inr l)) b c = inr (inl l)
    go (inr (inl e)) (inl l) c = inl (inr (e, inl l))
    go (inr (inl e)) (inr (inr l)) c = inr (inr (sym e, inl l))
    go (inr (inl e)) (inr (inl f)) (inl l) = inl (inr (e, inr (f, l)))
    go (inr (inl e)) (inr (inl f)) (inr (inl g)) = absurd (other g)
    go (inr (inl e)) (inr (inl f)) (inr (inr l)) = inr (inr (sym e, inr (sym f, l)))

-- ---- The three numbers of an order

-- lower goes first, on both sides
abbrev pub class_of : Heading → Side → ℕ → ℕ
class_of h Buy limit = H h - min limit (H h)
class_of h Sell limit = max limit (D h)

abbrev pub lateness : Bool → ℕ
lateness all_or_none = cond all_or_none 1 0

first_by_lem : (h : Heading) (s : Side) (l m : ℕ)
    → first_by s (priority_limit h s l) (priority_limit h s m) ≡ ltb (class_of h s l) (class_of h s m)
first_by_lem h Buy l m =
    same_test _ _
    (λ e. lt-ltb (class_of h Buy l) (class_of h Buy m) (omega (arith, ltb-true (min m (H h)) (min l (H h)) e)))
    (λ e. lt-ltb (min m (H h)) (min l (H h)) (omega (arith, ltb-true (class_of h Buy l) (class_of h Buy m) e)))
first_by_lem h Sell l m = refl

equal_by : (h : Heading) (s : Side) (l m : ℕ)
    → eqb (priority_limit h s l) (priority_limit h s m) ≡ eqb (class_of h s l) (class_of h s m)
equal_by h Buy l m =
    same_test _ _
    (λ e. eq-eqb (class_of h Buy l) (class_of h Buy m) (omega (arith, eqb-true (min l (H h)) (min m (H h)) e)))
    (λ e. eq-eqb (min l (H h)) (min m (H h)) (omega (arith, eqb-true (class_of h Buy l) (class_of h Buy m) e)))
equal_by h Sell l m = refl

filed_by : (p q : Bool) (i j : ℕ)
    → first_at_equal_limits p q i j ≡ (ltb (lateness p) (lateness q) || eqb (lateness p) (lateness q) && ltb i j)
filed_by true true i j = refl
filed_by true false i j = refl
filed_by false true i j = refl
filed_by false false i j = refl

-- ---- Priority

pub side_trans : (s t u : Side) → same_side s t ≡ true → same_side t u ≡ true → same_side s u ≡ true
side_trans Buy Buy u e f = f
side_trans Buy Sell u e f = absurd (false≢true e)
side_trans Sell Buy u e f = absurd (false≢true e)
side_trans Sell Sell u e f = f

pub side_sym : (s t : Side) → same_side s t ≡ true → same_side t s ≡ true
side_sym Buy Buy e = refl
side_sym Buy Sell e = e
side_sym Sell Buy e = e
side_sym Sell Sell e = refl

pub side_is : (s t : Side) → same_side s t ≡ true → s ≡ t
side_is Buy Buy e = refl
side_is Buy Sell e = absurd (false≢true e)
side_is Sell Buy e = absurd (false≢true e)
side_is Sell Sell e = refl

pub side_same : (s : Side) → same_side s s ≡ true
side_same Buy = refl
side_same Sell = refl

module _ (h : Heading) where
  abbrev class : Standing → ℕ
  class o = class_of h o.side o.limit.0

  abbrev late : Standing → ℕ
  late o = lateness o.all_or_none

  -- of two orders of one side, by the three numbers
  own_side : (s : Side) (l m : ℕ) (p q : Bool) (i j : ℕ)
      → (first_by s (priority_limit h s l) (priority_limit h s m)
      || eqb (priority_limit h s l) (priority_limit h s m) && first_at_equal_limits p q i j)
      ≡ lex (class_of h s l) (lateness p) i (class_of h s m) (lateness q) j
  own_side s l m p q i j = rw (first_by_lem h s l m, equal_by h s l m, filed_by p q i j)

  pub first_lex : (a b : Standing) (i j : ℕ)
      → first_of h a b i j ≡ (same_side a.side b.side && lex (class a) (late a) i (class b) (late b) j)
  unfolding first_of
  first_lex a b i j = go a.side b.side
    where
      go : (s t : Side)
          → (same_side s t
          && (first_by s (priority_limit h s a.limit.0) (priority_limit h t b.limit.0)
          || eqb (priority_limit h s a.limit.0) (priority_limit h t b.limit.0)
          && first_at_equal_limits a.all_or_none b.all_or_none i j))
          ≡ (same_side s t && lex (class_of h s a.limit.0) (late a) i (class_of h t b.limit.0) (late b) j)
      go Buy Buy = own_side Buy a.limit.0 b.limit.0 a.all_or_none b.all_or_none i j
      go Buy Sell = refl
      go Sell Buy = refl
      go Sell Sell = own_side Sell a.limit.0 b.limit.0 a.all_or_none b.all_or_none i j

  before : (a b : Standing) (i j : ℕ) → first_of h a b i j ≡ true
      → (same_side a.side b.side ≡ true) × Lex (class a) (late a) i (class b) (late b) j
  before a b i j e =
      let t = both {a = same_side a.side b.side} (sym (first_lex a b i j) ∙ e) in
      (t.0, lex_true (class a) (late a) i (class b) (late b) j t.1)

  after : (a b : Standing) (i j : ℕ) → same_side a.side b.side ≡ true → Lex (class a) (late a) i (class b) (late b) j
      → first_of h a b i j ≡ true
  after a b i j s l = first_lex a b i j ∙ rw (s, lex_from (class a) (late a) i (class b) (late b) j l)

  pub first_side : (a b : Standing) (i j : ℕ) → first_of h a b i j ≡ true → same_side a.side b.side ≡ true
  first_side a b i j e = (before a b i j e).0

  pub first_trans : (a b c : Standing) (i j k : ℕ) → first_of h a b i j ≡ true → first_of h b c j k ≡ true
      → first_of h a c i k ≡ true
  first_trans a b c i j k e f =
      let p = before a b i j e in
      let q = before b c j k f in
      after a c i k (side_trans a.side b.side c.side p.0 q.0)
      (lex_trans (class a) (late a) i (class b) (late b) j (class c) (late c) k p.1 q.1)

  pub first_irrefl : (a : Standing) (i : ℕ) → first_of h a a i i ≡ true → ⊥
  first_irrefl a i e = lex_irrefl (class a) (late a) i (before a a i i e).1

  pub first_total : (a b : Standing) (i j : ℕ) → same_side a.side b.side ≡ true → (i ≡ j → ⊥)
      → (first_of h a b i j ≡ true) ⊎ (first_of h b a j i ≡ true)
  first_total a b i j s other = go (lex_total (class a) (late a) i (class b) (late b) j other)
    where
      go : Lex (class a) (late a) i (class b) (late b) j ⊎ Lex (class b) (late b) j (class a) (late a) i
          → (first_of h a b i j ≡ true) ⊎ (first_of h b a j i ≡ true)
      go (inl l) = inl (after a b i j s l)
      go (inr l) = inr (after b a j i (side_sym a.side b.side s) l)

  -- ---- Who is ranked before an eligible order is eligible

  class_le : (x z i y w j : ℕ) → Lex x z i y w j → x ≤ y
  class_le x z i y w j (inl l) = omega arith
  class_le x z i y w j (inr (e, l)) = omega arith

  allows_before : (s t : Side) (l m p : ℕ) → same_side s t ≡ true → D h ≤ p → p ≤ H h → class_of h s l ≤ class_of h t m
      → allows t m p ≡ true → allows s l p ≡ true
  allows_before Buy Buy l m p e low high le ok = le-leb p l (omega (arith, leb-true p m ok))
  allows_before Buy Sell l m p e low high le ok = absurd (false≢true e)
  allows_before Sell Buy l m p e low high le ok = absurd (false≢true e)
  allows_before Sell Sell l m p e low high le ok = le-leb l p (omega (arith, leb-true m p ok))

  pub first_eligible : (x : Auction) (a b : Standing) (i j : ℕ) → D h ≤ H h → first_of h a b i j ≡ true
      → eligible h x b ≡ true → eligible h x a ≡ true
  unfolding eligible
  first_eligible x a b i j band e f =
      let q = before a b i j e in
      let t = both {a = eqb x.situation 0} f in
      let w = moved_within (D h) (H h) x.price band in
      rw t.0
      (allows_before a.side b.side a.limit.0 b.limit.0 (potential_purchase h x) q.0 w.0 w.1
      (class_le (class a) (late a) i (class b) (late b) j q.1) t.1)
