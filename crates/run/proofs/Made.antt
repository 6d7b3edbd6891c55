-- An array made by a function of the place, which changes nothing as it is called: its values, place by place.
use mathlib.Core.List.{List}
use mathlib.Core.Path.{◌≡◌, sym, subst, ◌∙◌}
use Prim.Native.Nat.{ℕ, zero, suc, ◌+◌, ◌≤◌, ◌<◌}
use native.Mathlib.Decide.{dec_le}
use native.Mathlib.Omega.{arith}
use denote.Param.Members.{Mut, Called}
use lib.ListN.{get_or}
use Rattle.rules.proofs.Lists.{listed-is}
use Rattle.rules.specs.Lists.{listed}
use Rattle.std.specs.Array.{IsFromFnResult, IsFromFnResultFrom}

module _ {F B : Type 0} (g : Mut F (ℕ × Unit {0}) B) {f : F} {n : ℕ} (h : ℕ → B)
    (each : (i : ℕ) (y : B) (q : F) → i < n → Called g f (i, tt) y q → (q ≡ f) × (y ≡ h i)) where
  -- of the m places from i on
  from_place : (ys : List B) (d : B) (m i : ℕ) → i + m ≡ n → IsFromFnResultFrom g f ys i m → (k : ℕ) → i ≤ k → k < n → h k ≡ get_or ys k d
  from_place ys d zero i e made k low high = absurd (omega arith)
  from_place ys d (suc m) i e (q, y, here, called, rest) k low high =
      let step : (q ≡ f) × (y ≡ h i) = each i y q (omega arith) called in
      let left : IsFromFnResultFrom g f ys (i + 1) m = subst (λ (p : F). IsFromFnResultFrom g p ys (i + 1) m) step.0 rest in
      elim (dec_le (suc i) k) as (λ _. h k ≡ get_or ys k d) [
        | yes l ↦ from_place ys d m (i + 1) (omega arith) left k (omega (arith, l)) high
        | no l ↦ let same : k ≡ i = omega (arith, l) in rw same (sym (here.1 d ∙ step.1))
      ]

  pub listed_made : {ys : List B} → B → IsFromFnResult g f ys n → ys ≡ listed h n
  listed_made {ys} d made = sym (listed-is h n d ys made.long (λ k l. from_place ys d n 0 (omega arith) made.each k (omega arith) l))
