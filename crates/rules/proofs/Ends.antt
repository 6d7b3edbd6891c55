-- Only limits matter: what stands at a price changes only at a limit, so a scan of the whole grid is a look at the limits
-- and the end of the grid. A limit is told by the price after which what it allows changes, for a buy and a sell alike.
use mathlib.Core.Bool.{Bool, true, false, not, ◌&&◌, cond}
use mathlib.Core.List.{List, [], ◌∷◌, map}
use mathlib.Core.Option.{Option, none, some}
use mathlib.Core.Path.{◌≡◌, refl, sym, ap, ◌∙◌, fun_ext}
use Prim.Native.Nat.{ℕ, zero, suc, ◌+◌, ◌-◌, ◌≤◌, ◌<◌}
use native.Mathlib.Omega.{arith}
use lib.Dec.{leb, leb-zero}
use lib.ListN.{length}
use borrow.Author.Tests.{leb-true, leb-false, le-leb, lt-leb}
use Rattle.rules.proofs.Scan.{Same, greatest_at, place_if, value_if, largest_at_ends, greatest_at_ends}
use Rattle.rules.proofs.Sums.{sum_same}
use Rattle.rules.specs.AuctionPrice.{level, in_band, demand, supply}
use Rattle.rules.specs.Grid.{last_price, nth, best_among, greatest_to, Scan, over_grid}
use Rattle.rules.specs.Limits.{same_side, numbered, allows, stands_at, pieces_at}
use Rattle.rules.specs.Lists.{largest_to}
use Rattle.rules.specs.Sheet.{D, H}
use Rattle.rules.specs.declared.Heading.{Heading}
use Rattle.rules.specs.declared.Side.{Side}
use Rattle.rules.specs.declared.Side.TheVariants.{Buy, Sell}
use Rattle.rules.specs.declared.Standing.{Standing}

-- ---- The law of the scans

-- the price of a side's place; place 0 is none
abbrev pub price_at : Side → ℕ → Option ℕ
price_at s zero = none
price_at s (suc k) = some (nth s (suc k))

pub best_place : (s : Side) (P : ℕ → Bool) (k : ℕ) → best_among s P k ≡ price_at s (largest_to (λ j. P (nth s j)) k)
unfolding best_among largest_to
best_place s P zero = refl
best_place s P (suc k) = go (P (nth s (suc k))) (largest_to (λ j. P (nth s j)) k) (best_place s P k)
  where
    go : (t : Bool) (place : ℕ) {before : Option ℕ} → before ≡ price_at s place
        → cond t (some (nth s (suc k))) before ≡ price_at s (cond t (suc k) place)
    go true place e = refl
    go false place e = e

-- the places after which a side's scan may change, where ps are the prices after which it may
abbrev pub ends_for : Side → List ℕ → List ℕ
ends_for Buy ps = ps
ends_for Sell [] = []
ends_for Sell (p ∷ ps) = (last_price - p) ∷ ends_for Sell ps

-- a test is the negation of another where the facts exclude each other
leb_not : (a b c d : ℕ) → (a ≤ b → d < c) → (b < a → c ≤ d) → leb a b ≡ not (leb c d)
leb_not a b c d f g = go (leb a b) refl
  where
    go : (t : Bool) → leb a b ≡ t → leb a b ≡ not (leb c d)
    go true e = e ∙ sym (ap not (lt-leb c d (f (leb-true a b e))))
    go false e = e ∙ sym (ap not (le-leb c d (g (leb-false a b e))))

same_for : (s : Side) (ps : List ℕ) (i j : ℕ) → 1 ≤ i → 1 ≤ j → Same (ends_for s ps) i j
    → Same ps (nth s i) (nth s j)
same_for Buy ps i j hi hj e = e
same_for Sell [] i j hi hj e = tt
same_for Sell (p ∷ ps) i j hi hj e = (mirrored i hi ∙ ap not e.0 ∙ sym (mirrored j hj), same_for Sell ps i j hi hj e.1)
  where
    mirrored : (i : ℕ) → 1 ≤ i → leb (last_price + 1 - i) p ≡ not (leb i (last_price - p))
    mirrored i h = leb_not (last_price + 1 - i) p i (last_price - p) (λ l. omega arith) (λ l. omega arith)

-- what a price has does not change where no price of ps lies between
abbrev pub Steps : {A : Type 0} → List ℕ → (ℕ → A) → Type 0
Steps ps f = (p q : ℕ) → Same ps p q → f p ≡ f q

-- a look at the prices where it changes, and at the end of the grid
abbrev pub over_ends : {A : Type 0} → List ℕ → (ℕ → A) → Scan A
over_ends ps f = record {
  best = λ s P. price_at s (greatest_at (place_if (λ k. P (f (nth s k))) last_price) (ends_for s ps) last_price);
  greatest = λ v. greatest_at (value_if (λ p. v (f p)) last_price) ps last_price;
}

pub scan_at_ends : {A : Type 0} (ps : List ℕ) (f : ℕ → A) → Steps ps f → over_grid f ≡ over_ends ps f
unfolding over_grid
scan_at_ends {A} ps f steps = λ i. record {
  best = fun_ext {f = (over_grid f).best} {g = (over_ends ps f).best} (λ s. fun_ext (best s)) i;
  greatest = fun_ext {f = (over_grid f).greatest} {g = (over_ends ps f).greatest} greatest i;
}
  where
    best : (s : Side) (P : A → Bool)
        → best_among s (λ p. P (f p)) last_price
        ≡ price_at s (greatest_at (place_if (λ k. P (f (nth s k))) last_price) (ends_for s ps) last_price)
    best s P =
        best_place s (λ p. P (f p)) last_price
        ∙ ap (price_at s) (largest_at_ends (λ k. P (f (nth s k))) (ends_for s ps) last_price
        (λ i j hi mi hj mj e. ap P (steps (nth s i) (nth s j) (same_for s ps i j hi hj e))))

    greatest : (v : A → ℕ) → greatest_to (λ p. v (f p)) last_price ≡ greatest_at (value_if (λ p. v (f p)) last_price) ps last_price
    greatest v = greatest_at_ends (λ p. v (f p)) ps last_price (λ i j hi mi hj mj e. ap v (steps i j e))

-- ---- The ends are the limits

-- the price after which what a limit allows changes
abbrev pub limit_end : Side → ℕ → ℕ
limit_end Buy limit = limit
limit_end Sell limit = limit - 1

allows_same : (s : Side) (limit p q : ℕ) → leb p (limit_end s limit) ≡ leb q (limit_end s limit)
    → allows s limit p ≡ allows s limit q
allows_same Buy limit p q e = e
allows_same Sell zero p q e = leb-zero p ∙ sym (leb-zero q)
allows_same Sell (suc l) p q e = above p ∙ ap not e ∙ sym (above q)
  where
    above : (p : ℕ) → leb (suc l) p ≡ not (leb p (suc l - 1))
    above p = leb_not (suc l) p p (suc l - 1) (λ h. omega arith) (λ h. omega arith)

abbrev pub end_of : Standing → ℕ
end_of o = limit_end o.side o.limit.0

unfoldable pub limit_ends : List Standing → List ℕ
limit_ends os = map end_of os

same_at : (os : List Standing) (p q j : ℕ) → Same (limit_ends os) p q → j < length os
    → leb p (end_of (numbered os j)) ≡ leb q (end_of (numbered os j))
unfolding limit_ends
same_at [] p q j e h = absurd (omega arith)
same_at (o ∷ os) p q zero e h = e.0
same_at (o ∷ os) p q (suc j) e h = same_at os p q j e.1 (omega arith)

stands_same : (s : Side) (o : Standing) (p q : ℕ) → leb p (end_of o) ≡ leb q (end_of o) → stands_at s p o ≡ stands_at s q o
stands_same s o p q = go s o.side
  where
    go : (s t : Side) → leb p (limit_end t o.limit.0) ≡ leb q (limit_end t o.limit.0)
        → (same_side s t && allows s o.limit.0 p) ≡ (same_side s t && allows s o.limit.0 q)
    go Buy Buy e = allows_same Buy o.limit.0 p q e
    go Buy Sell e = refl
    go Sell Buy e = refl
    go Sell Sell e = allows_same Sell o.limit.0 p q e

-- the pieces of any of the orders of a side change only at limits
pub pieces_step : (counts : ℕ → Bool) (s : Side) (os : List Standing) → Steps (limit_ends os) (pieces_at counts s os)
unfolding pieces_at
pieces_step counts s os p q e =
    sum_same _ _ (length os)
    (λ j h.
    ap (λ (t : Bool). cond (counts j && t) (numbered os j).remaining.0 0)
    (stands_same s (numbered os j) p q (same_at os p q j e h)))

-- what a price has in a round changes only at limits and at the bounds of the band
unfoldable pub level_ends : Heading → List Standing → List ℕ
level_ends h os = limit_end Sell (D h) ∷ limit_end Buy (H h) ∷ limit_ends os

pub level-step : (h : Heading) (os : List Standing) → Steps (level_ends h os) (level h os)
unfolding level_ends level
level-step h os p q e =
    let w : in_band h p ≡ in_band h q = rw (allows_same Sell (D h) p q e.0, allows_same Buy (H h) p q e.1.0) in
    let d : demand os p ≡ demand os q = pieces_step (λ k. true) Buy os p q e.1.1 in
    let s : supply os p ≡ supply os q = pieces_step (λ k. true) Sell os p q e.1.1 in
    rw (w, d, s)
