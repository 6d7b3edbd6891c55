-- Texts that a loop puts one behind the other: after i of them the first i stand together, and each has taken no more bytes than any may.
use mathlib.Core.List.{List}
use mathlib.Core.Path.{◌≡◌, refl}
use Prim.Native.Nat.{ℕ, zero, suc, ◌+◌, ◌*◌, ◌<◌}
use native.Mathlib.Numerals.{add-one}
use native.Mathlib.Omega.{arith}
use Rattle.rules.specs.Lists.{joined_to}
use Rattle.text.proofs.Writing.{◌then◌, ◌within◌}
use Rattle.text.specs.Writing.{Puts}
use Rattle.text.specs.declared.writer.Writer.{Writer}

pub joined_more : (f : ℕ → List ℕ) (most i : ℕ) {before mid after : Writer} → Puts (most * i) (joined_to f i) before mid → Puts most (f i) mid after
    → Puts (most * (i + 1)) (joined_to f (i + 1)) before after
unfolding joined_to
joined_more f most i first next = rw (add-one i) (first then next within omega arith)

-- texts that are the same one by one are the same together
pub joined_same : (f g : ℕ → List ℕ) (n : ℕ) → ((k : ℕ) → k < n → f k ≡ g k) → joined_to f n ≡ joined_to g n
unfolding joined_to
joined_same f g zero same = refl
joined_same f g (suc n) same = cc (joined_same f g n (λ k l. same k (omega arith)), same n (omega arith))
