-- The ruleset for a `returns` whose promise goes by tests: each test of the goal is rewritten by the branch's fact. And a law by cases on a
-- test, which does not repeat what stands behind it.
use mathlib.Core.Bool.{Bool, true, false, cond}
use mathlib.Core.Path.{◌≡◌, refl}
use borrow.Author.Rules.{rules}
use borrow.Author.Tests.{lt-ltb, le-ltb, le-leb, lt-leb, eq-eqb, ne_eqb}

pub ruleset tests = (lt-ltb, le-ltb, le-leb, lt-leb, eq-eqb, ne_eqb, rules)

-- by cases on a test, with its outcome as an equation
pub by_test {ℓ} : {A : Type ℓ} (R : A → Type 0) (t : Bool) {x y : A} → (t ≡ true → R x) → (t ≡ false → R y)
    → R (cond t x y)
by_test R true f g = f refl
by_test R false f g = g refl
