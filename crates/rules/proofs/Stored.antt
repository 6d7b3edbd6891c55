-- Two lists of words compared from the front: what is known once they agree up to a word, and that only equal lists differ
-- nowhere. Then the rounds in a list of words: one that is there has all its words in it.
use mathlib.Core.Bool.{Bool, true, false, cond}
use mathlib.Core.List.{List, [], ◌∷◌}
use mathlib.Core.Path.{◌≡◌, refl}
use Prim.Native.Nat.{ℕ, suc, ◌+◌, ◌*◌, ◌≤◌, ◌<◌}
use native.Mathlib.Nat.{suc-mul, le-div_iff_mul-le}
use native.Mathlib.Omega.{arith}
use lib.Dec.{eqb}
use lib.ListN.{length}
use borrow.Author.Tests.{lt-ltb, le-ltb, eq-eqb, eqb-true}
use Rattle.std.specs.declared.option.Option.{Option}
use Rattle.std.specs.Prelude.{Some, None}
use Rattle.rules.specs.Answers.{gives, refuses, downwards}
use Rattle.rules.specs.Result.{rounds_for}
use Rattle.rules.specs.Stored.{further, first_difference, on_round}

-- ---- The first difference

at_most : {p q n : ℕ} → Some p ≡ Some q → p ≤ n → q ≤ n
at_most {p} {q} e few = let same : p ≡ q = cc in omega (arith, few)

-- only equal lists differ nowhere
none_after : (d : Option ℕ) → further 1 d ≡ None → d ≡ None
none_after None e = refl
none_after (Some place) e = cc

same_tail : (b : Bool) (d : Option ℕ) → cond b (further 1 d) (Some 0) ≡ None → (b ≡ true) × (d ≡ None)
same_tail true d e = (refl, none_after d e)
same_tail false d e = (cc, cc)

pub same_lists : (xs ys : List ℕ) → first_difference xs ys ≡ None → xs ≡ ys
unfolding first_difference
same_lists [] [] e = refl
same_lists [] (y ∷ ys) e = cc
same_lists (x ∷ xs) [] e = cc
same_lists (x ∷ xs) (y ∷ ys) e =
    let both = same_tail (eqb x y) (first_difference xs ys) e in
    cc (eqb-true x y both.0, same_lists xs ys both.1)

pub no_difference : (xs : List ℕ) → first_difference xs xs ≡ None
unfolding first_difference
no_difference [] = refl
no_difference (x ∷ xs) = simp (eq-eqb x x refl, no_difference xs)

-- the first difference is at most at the end of the first list
pub difference_within : (xs ys : List ℕ) {p : ℕ} → first_difference xs ys ≡ Some p → p ≤ length xs
unfolding first_difference
difference_within [] [] e = let z : ◌≡◌ {A = ℕ} 0 1 = cc in omega arith
difference_within [] (y ∷ ys) e = at_most e (omega arith)
difference_within (x ∷ xs) [] e = at_most e (omega arith)
difference_within (x ∷ xs) (y ∷ ys) {p} e = go (eqb x y) (first_difference xs ys) e (λ q found. difference_within xs ys found)
  where
    go : (b : Bool) (d : Option ℕ) → cond b (further 1 d) (Some 0) ≡ Some p → ((q : ℕ) → d ≡ Some q → q ≤ length xs) → p ≤ suc (length xs)
    go true None e within = let z : ◌≡◌ {A = ℕ} 0 1 = cc in omega arith
    go true (Some place) e within = at_most e (omega (arith, within place refl))
    go false d e within = at_most e (omega arith)

-- ---- Rounds

module _ (n : ℕ) (rs : List ℕ) (r : ℕ) where
  -- all words of a round that is there
  pub round_within : r < rounds_for n rs → r * (n + 4) + (n + 4) ≤ length rs
  round_within there =
      let fits : suc r * (n + 4) ≤ length rs = (le-div_iff_mul-le {k = n + 4} {x = suc r} {y = length rs} (omega arith)).0 there in
      rw suc-mul at fits

  pub round_there : (vs : List ℕ) → r < rounds_for n rs → on_round n rs r vs ≡ gives vs
  unfolding downwards
  round_there vs there = rw (lt-ltb r (rounds_for n rs) there)

  pub round_beyond : (vs : List ℕ) → rounds_for n rs ≤ r → on_round n rs r vs ≡ refuses 9 0
  unfolding downwards
  round_beyond vs beyond = rw (le-ltb r (rounds_for n rs) beyond)
