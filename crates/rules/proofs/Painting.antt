-- A list that a loop writes from the front: the first i places are f's values, the others as they were before.
use mathlib.Core.List.{List, [], ◌∷◌, ◌++◌, append_assoc, append-nil}
use mathlib.Core.Path.{◌≡◌, refl, sym, ap, ◌∙◌}
use Prim.Native.Nat.{ℕ, zero, suc, ◌+◌, ◌-◌, ◌≤◌, ◌<◌, zero-le}
use native.Mathlib.Numerals.{add-one}
use native.Mathlib.Omega.{arith}
use lib.ListN.{length, get_or, set, drop, replicate, length-append, length-drop, drop_of_length-le}
use lib.Seq.{set_at, drop-cons}
use Rattle.rules.proofs.Lists.{length-listed}
use Rattle.rules.specs.Lists.{listed}

pub record Painted {A : Type 0} (f : ℕ → A) (before after : List A) (i : ℕ) : Type 0 where
  pub few : i ≤ length before
  pub holds : after ≡ listed f i ++ drop i before

pub painted_none : {A : Type 0} (f : ℕ → A) (before : List A) → Painted f before before 0
unfolding listed
painted_none f before = record { few = zero-le; holds = refl }

module _ {A : Type 0} {f : ℕ → A} {before after : List A} {i : ℕ} (p : Painted f before after i) where
  pub painted_more : A → i < length before → {x : A} → x ≡ f i → Painted f before (set after i x) (i + 1)
  unfolding listed
  painted_more d more e = record {
    few = omega arith;
    holds = rw (e, p.holds, drop-cons before i d more, add-one i)
        (set_at (listed f i) (get_or before i d) (drop (suc i) before) (f i) i (length-listed f i)
        ∙ sym (append_assoc (listed f i) (f i ∷ []) (drop (suc i) before)));
  }

  pub painted_length : length after ≡ length before
  painted_length = ap length p.holds ∙ simp (length-append, length-listed, length-drop) (omega (arith, p.few))

  pub painted_all : {n : ℕ} → length before ≡ n → n ≤ i → after ≡ listed f n
  painted_all {n} long done =
      let last : i ≡ n = omega (arith, p.few) in
      let none_left : length before ≤ n = omega arith in
      p.holds ∙ rw (last, drop_of_length-le before none_left) (append-nil (listed f n))

-- where all places held the same, those that are left still do
drop_same : {A : Type 0} (x : A) (m i : ℕ) → drop i (replicate m x) ≡ replicate (m - i) x
drop_same x m zero = let all : m ≡ m - 0 = omega arith in ap (λ (n : ℕ). replicate n x) all
drop_same x zero (suc i) = let none : 0 ≡ 0 - suc i = omega arith in ap (λ (n : ℕ). replicate n x) none
drop_same x (suc m) (suc i) =
    let less : m - i ≡ suc m - suc i = omega arith in drop_same x m i ∙ ap (λ (n : ℕ). replicate n x) less

pub painted_first : {A : Type 0} {f : ℕ → A} (x : A) (m : ℕ) {after : List A} {i : ℕ} → Painted f (replicate m x) after i
    → after ≡ listed f i ++ replicate (m - i) x
painted_first {f = f} x m {i = i} p = p.holds ∙ ap (λ rest. listed f i ++ rest) (drop_same x m i)
