-- The stored words beside those of the opening: where two lists first differ, found by a walk over both at once; and what the opening
-- with the largest space that any sheet asks for says of a stored result.
use mathlib.Core.Bool.{Bool, true, false, not, cond}
use mathlib.Core.List.{List, [], ◌∷◌}
use mathlib.Core.Path.{◌≡◌, refl, sym, ap, ◌∙◌}
use Prim.Native.Nat.{ℕ, suc, ◌+◌, min}
use native.Mathlib.Nat.{le_refl}
use native.Mathlib.Omega.{arith}
use lib.Dec.{eqb, ltb}
use lib.ListN.{length, take}
use Rattle.claims.proofs.CallsHold.{opening_checked, most_asked}
use Rattle.claims.specs.Fits.{Within}
use Rattle.rules.proofs.Lists.{first_taken}
use Rattle.rules.specs.Answers.{gives, refused, space_answer}
use Rattle.rules.specs.Calls.{opening, answer}
use Rattle.rules.specs.Stored.{answers, further, first_difference, unless_different, opening_of, open_stored, stored_by, stored_answer}
use Rattle.rules.specs.declared.Refusal.{Refusal}
use Rattle.std.proofs.lemmas.Bool.Decides.{nat_tests}
use Rattle.std.specs.List.{position, position_or_len, zip}
use Rattle.std.specs.Prelude.{Ok, Err, Some, None}
use Rattle.std.specs.Option.{option_or}
use Rattle.std.specs.declared.option.Option.{Option}
use Rattle.std.specs.declared.result.Result.{Result}

-- ---- The first difference

abbrev pub unlike : ℕ × ℕ → Bool
unlike p = not (eqb p.0 p.1)

-- where the shorter list ends, unless both do
abbrev pub end_of : List ℕ → List ℕ → Option ℕ
end_of xs ys = cond (not (eqb (length xs) (length ys))) (Some (min (length xs) (length ys))) None

-- where the first pair comes before the others
position_next : (p : ℕ × ℕ → Bool) (x : ℕ × ℕ) (xs : List (ℕ × ℕ)) → position p (x ∷ xs) ≡ cond (p x) (Some 0) (further 1 (position p xs))
position_next p x xs = go (p x) (position_or_len p xs) (length xs)
  where
    go : (b : Bool) (l n : ℕ) → cond (ltb (cond (not b) (1 + l) 0) (suc n)) (Some (cond (not b) (1 + l) 0)) None
        ≡ cond b (Some 0) (further 1 (cond (ltb l n) (Some l) None))
    go true l n = grind (arith, nat_tests)
    go false l n = grind (arith, nat_tests)

end_next : (m n : ℕ) → cond (not (eqb (suc m) (suc n))) (Some (min (suc m) (suc n))) None
    ≡ further 1 (cond (not (eqb m n)) (Some (min m n)) None)
end_next m n = grind (arith, nat_tests)

further_or : (a b : Option ℕ) → option_or (further 1 a) (further 1 b) ≡ further 1 (option_or a b)
further_or None b = refl
further_or (Some place) b = refl

pub difference_found : (xs ys : List ℕ) → option_or (position unlike (zip xs ys)) (end_of xs ys) ≡ first_difference xs ys
unfolding first_difference
difference_found [] [] = refl
difference_found [] (y ∷ ys) = grind (arith, nat_tests)
difference_found (x ∷ xs) [] = grind (arith, nat_tests)
difference_found (x ∷ xs) (y ∷ ys) =
    rw (position_next unlike (x, y) (zip xs ys), end_next (length xs) (length ys))
    (go (eqb x y) (position unlike (zip xs ys)) (end_of xs ys) (difference_found xs ys))
  where
    go : (same : Bool) (d e : Option ℕ) → option_or d e ≡ first_difference xs ys
        → option_or (cond (not same) (Some 0) (further 1 d)) (further 1 e) ≡ cond same (further 1 (first_difference xs ys)) (Some 0)
    go true d e found = further_or d e ∙ ap (further 1) found
    go false d e found = refl

-- ---- The opening

-- 15,005 words are enough for every opening, so what it answers is what it answers with just its space
enough_lent : (ws : List ℕ) → answer (opening ws 15005) ≡ answer (opening_of ws)
enough_lent ws = opening_checked ws (most_asked ws) ∙ sym (opening_checked ws (λ accepted. le_refl _))

module _ (ws stored space : List ℕ) where
  -- what the opening answered says of the stored words
  abbrev pub SaidBeside : Result ℕ Refusal → Type 0
  SaidBeside (Ok count) = unless_different (first_difference stored (take count space)) (gives []) ≡ stored_answer (open_stored ws stored)
  SaidBeside (Err r) = answers (refused r) ≡ stored_answer (open_stored ws stored)

  pub said_beside : (a : Result ℕ Refusal) → Within a (length space) → space_answer a space ≡ answer (opening ws 15005) → SaidBeside a
  unfolding stored_answer stored_by
  said_beside (Ok count) few said = rw (← enough_lent ws, ← said, first_taken space count few)
  said_beside (Err r) few said = rw (← enough_lent ws, ← said)
