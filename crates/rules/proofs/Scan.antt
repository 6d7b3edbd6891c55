-- A scan of 1..n is a look at a few places, where what is looked for changes only after known ones. From any place go on to
-- the last one of its step: it is one of the known places, or n, and nothing is lost on the way.
use mathlib.Core.Bool.{Bool, true, false, ◌&&◌, cond}
use mathlib.Core.List.{List, [], ◌∷◌}
use mathlib.Core.Logic.{◌⊎◌, inl, inr}
use mathlib.Core.Path.{◌≡◌, refl, sym, ap, ◌∙◌}
use Prim.Native.Nat.{ℕ, zero, suc, ◌≤◌, ◌<◌, max, min, zero-le}
use native.Mathlib.Nat.{le_refl, le_trans, le_antisymm, le-max_left, le-max_right, max-le, eq-or-lt_of_le}
use native.Mathlib.Omega.{arith}
use lib.Dec.{leb}
use borrow.Author.Tests.{leb-true, leb-false, le-leb, lt-leb}
use Rattle.rules.proofs.Grid.{both}
use Rattle.rules.proofs.Tests.{by_test}
use Rattle.rules.specs.Grid.{greatest_to}
use Rattle.rules.specs.Lists.{largest_to}

-- ---- The largest number that passes a test, and the greatest value

pub largest_le : (P : ℕ → Bool) (m : ℕ) → largest_to P m ≤ m
unfolding largest_to
largest_le P zero = le_refl 0
largest_le P (suc m) = by_test (λ r. r ≤ suc m) (P (suc m)) (λ e. le_refl _) (λ e. omega (arith, largest_le P m))

pub largest_ge : (P : ℕ → Bool) (m j : ℕ) → j ≤ m → P j ≡ true → j ≤ largest_to P m
unfolding largest_to
largest_ge P zero j h e = h
largest_ge P (suc m) j h e =
    by_test (λ r. j ≤ r) (P (suc m)) (λ t. h) (λ t. before t (eq-or-lt_of_le h) (λ l. largest_ge P m j l e))
  where
    before : P (suc m) ≡ false → (j ≡ suc m) ⊎ (j < suc m) → (j ≤ m → j ≤ largest_to P m) → j ≤ largest_to P m
    before t (inl q) rest = let z : ◌≡◌ {A = ℕ} 0 1 = cc in absurd (omega arith)
    before t (inr l) rest = rest (omega arith)

pub largest_passes : (P : ℕ → Bool) (m : ℕ) → 0 < largest_to P m → P (largest_to P m) ≡ true
unfolding largest_to
largest_passes P zero = λ h. absurd (omega arith)
largest_passes P (suc m) = by_test (λ r. 0 < r → P r ≡ true) (P (suc m)) (λ t h. t) (λ t h. largest_passes P m h)

pub greatest_ge : (f : ℕ → ℕ) (n j : ℕ) → 1 ≤ j → j ≤ n → f j ≤ greatest_to f n
unfolding greatest_to
greatest_ge f zero j h₁ h₂ = absurd (omega arith)
greatest_ge f (suc n) j h₁ h₂ = at (eq-or-lt_of_le h₂) (greatest_ge f n j h₁)
  where
    at : (j ≡ suc n) ⊎ (j < suc n) → (j ≤ n → f j ≤ greatest_to f n) → f j ≤ max (greatest_to f n) (f (suc n))
    at (inl e) rest = rw e (le-max_right _ _)
    at (inr l) rest = le_trans (rest (omega arith)) (le-max_left _ _)

pub greatest_le : (f : ℕ → ℕ) (n g : ℕ) → ((j : ℕ) → 1 ≤ j → j ≤ n → f j ≤ g) → greatest_to f n ≤ g
unfolding greatest_to
greatest_le f zero g h = zero-le
greatest_le f (suc n) g h = max-le (greatest_le f n g (λ j h₁ h₂. h j h₁ (omega arith))) (h (suc n) (omega arith) (le_refl _))

-- ---- Steps

-- no end of a step parts the two places
abbrev pub Same : List ℕ → ℕ → ℕ → Type 0
Same [] i j = Unit {0}
Same (c ∷ cs) i j = (leb i c ≡ leb j c) × Same cs i j

-- the last place up to n of the step that i is in
abbrev pub step_end : List ℕ → ℕ → ℕ → ℕ
step_end [] n i = n
step_end (c ∷ cs) n i = cond (leb i c) (min c (step_end cs n i)) (step_end cs n i)

end_ge : (cs : List ℕ) (n i : ℕ) → i ≤ n → i ≤ step_end cs n i
end_ge [] n i h = h
end_ge (c ∷ cs) n i h =
    by_test (λ u. i ≤ u) (leb i c) (λ e. omega (arith, leb-true i c e, end_ge cs n i h)) (λ e. end_ge cs n i h)

end_le : (cs : List ℕ) (n i : ℕ) → step_end cs n i ≤ n
end_le [] n i = le_refl n
end_le (c ∷ cs) n i = by_test (λ u. u ≤ n) (leb i c) (λ e. omega (arith, end_le cs n i)) (λ e. end_le cs n i)

-- what lies between two places of a step is in it
between : (cs : List ℕ) (i k j : ℕ) → i ≤ k → k ≤ j → Same cs i j → Same cs i k
between [] i k j h₁ h₂ s = tt
between (c ∷ cs) i k j h₁ h₂ s = (go (leb i c) refl, between cs i k j h₁ h₂ s.1)
  where
    go : (t : Bool) → leb i c ≡ t → leb i c ≡ leb k c
    go true e = e ∙ sym (le-leb k c (omega (arith, leb-true j c (sym s.0 ∙ e))))
    go false e = e ∙ sym (lt-leb k c (omega (arith, leb-false i c e)))

end_same : (cs : List ℕ) (n i : ℕ) → i ≤ n → Same cs i (step_end cs n i)
end_same [] n i h = tt
end_same (c ∷ cs) n i h =
    by_test (λ u. Same (c ∷ cs) i u) (leb i c)
    (λ e. (
      e ∙ sym (le-leb (min c (step_end cs n i)) c (omega arith)),
      between cs i (min c (step_end cs n i)) (step_end cs n i) (omega (arith, leb-true i c e, end_ge cs n i h)) (omega arith)
          (end_same cs n i h),
    ))
    (λ e. (e ∙ sym (lt-leb (step_end cs n i) c (omega (arith, leb-false i c e, end_ge cs n i h))), end_same cs n i h))

-- ---- The candidates: the ends of the steps, and n

abbrev pub greatest_at : (ℕ → ℕ) → List ℕ → ℕ → ℕ
greatest_at F [] n = F n
greatest_at F (c ∷ cs) n = max (F c) (greatest_at F cs n)

end_tried : (F : ℕ → ℕ) (cs : List ℕ) (n i : ℕ) → F (step_end cs n i) ≤ greatest_at F cs n
end_tried F [] n i = le_refl (F n)
end_tried F (c ∷ cs) n i =
    let rest : F (step_end cs n i) ≤ max (F c) (greatest_at F cs n) = le_trans (end_tried F cs n i) (le-max_right _ _) in
    by_test (λ u. F u ≤ max (F c) (greatest_at F cs n)) (leb i c) (λ e. nearer (leb c (step_end cs n i)) refl rest) (λ e. rest)
  where
    nearer : (t : Bool) → leb c (step_end cs n i) ≡ t → F (step_end cs n i) ≤ max (F c) (greatest_at F cs n)
        → F (min c (step_end cs n i)) ≤ max (F c) (greatest_at F cs n)
    nearer true e rest =
        let q : min c (step_end cs n i) ≡ c = omega (arith, leb-true c (step_end cs n i) e) in
        rw q (le-max_left _ _)
    nearer false e rest =
        let q : min c (step_end cs n i) ≡ step_end cs n i = omega (arith, leb-false c (step_end cs n i) e) in
        rw q rest

at_most : (F : ℕ → ℕ) (cs : List ℕ) (n g : ℕ) → ((c : ℕ) → F c ≤ g) → greatest_at F cs n ≤ g
at_most F [] n g h = h n
at_most F (c ∷ cs) n g h = max-le (h c) (at_most F cs n g h)

-- what is looked for does not change within a step
abbrev pub Stepwise {ℓ} : {A : Type ℓ} → List ℕ → ℕ → (ℕ → A) → Type ℓ
Stepwise cs n f = (i j : ℕ) → 1 ≤ i → i ≤ n → 1 ≤ j → j ≤ n → Same cs i j → f i ≡ f j

abbrev pub in_range : ℕ → ℕ → Bool
in_range n c = leb 1 c && leb c n

in_range_lem : (n c : ℕ) → 1 ≤ c → c ≤ n → in_range n c ≡ true
in_range_lem n c h₁ h₂ = simp (le-leb 1 c h₁, le-leb c n h₂)

-- a candidate's place where it passes, else 0
abbrev pub place_if : (ℕ → Bool) → ℕ → ℕ → ℕ
place_if P n c = cond (in_range n c && P c) c 0

pub largest_at_ends : (P : ℕ → Bool) (cs : List ℕ) (n : ℕ) → Stepwise cs n P
    → largest_to P n ≡ greatest_at (place_if P n) cs n
largest_at_ends P cs n steps =
    le_antisymm (reached (largest_to P n) refl) (at_most (place_if P n) cs n (largest_to P n) each)
  where
    each : (c : ℕ) → place_if P n c ≤ largest_to P n
    each c =
        by_test (λ r. r ≤ largest_to P n) (in_range n c && P c)
        (λ e.
        let t = both {a = in_range n c} e in
        largest_ge P n c (leb-true c n (both {a = leb 1 c} t.0).1) t.1)
        (λ e. zero-le)

    reached : (r : ℕ) → largest_to P n ≡ r → r ≤ greatest_at (place_if P n) cs n
    reached zero e = zero-le
    reached (suc r) e =
        let most : largest_to P n ≤ n = largest_le P n in
        let ge : suc r ≤ step_end cs n (suc r) = end_ge cs n (suc r) (omega arith) in
        let pass : P (step_end cs n (suc r)) ≡ true =
        sym (steps (suc r) (step_end cs n (suc r)) (omega arith) (omega arith) (omega arith) (end_le cs n (suc r))
        (end_same cs n (suc r) (omega arith)))
        ∙ ap P (sym e) ∙ largest_passes P n (omega arith) in
        let worth : place_if P n (step_end cs n (suc r)) ≡ step_end cs n (suc r) =
        simp (in_range_lem n (step_end cs n (suc r)) (omega arith) (end_le cs n (suc r)), pass) in
        le_trans ge (rw worth at (end_tried (place_if P n) cs n (suc r)))

-- a candidate's value where it is in range, else 0
abbrev pub value_if : (ℕ → ℕ) → ℕ → ℕ → ℕ
value_if f n c = cond (in_range n c) (f c) 0

pub greatest_at_ends : (f : ℕ → ℕ) (cs : List ℕ) (n : ℕ) → Stepwise cs n f
    → greatest_to f n ≡ greatest_at (value_if f n) cs n
greatest_at_ends f cs n steps =
    le_antisymm (greatest_le f n _ reached) (at_most (value_if f n) cs n (greatest_to f n) each)
  where
    each : (c : ℕ) → value_if f n c ≤ greatest_to f n
    each c =
        by_test (λ r. r ≤ greatest_to f n) (in_range n c)
        (λ e. let t = both {a = leb 1 c} e in greatest_ge f n c (leb-true 1 c t.0) (leb-true c n t.1))
        (λ e. zero-le)

    reached : (j : ℕ) → 1 ≤ j → j ≤ n → f j ≤ greatest_at (value_if f n) cs n
    reached j h₁ h₂ =
        let ge : j ≤ step_end cs n j = end_ge cs n j h₂ in
        let same : f j ≡ f (step_end cs n j) = steps j (step_end cs n j) h₁ h₂ (omega arith) (end_le cs n j) (end_same cs n j h₂) in
        let worth : value_if f n (step_end cs n j) ≡ f (step_end cs n j) =
        simp (in_range_lem n (step_end cs n j) (omega arith) (end_le cs n j)) in
        rw (worth, ← same) at (end_tried (value_if f n) cs n j)
