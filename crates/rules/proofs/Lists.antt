-- Laws of listed values: a function of them, their number, the value at a place, and a list of such values.
use mathlib.Core.List.{List, [], ◌∷◌, ◌++◌, map, map-append}
use mathlib.Core.Path.{◌≡◌, refl, sym, ap, ◌∙◌}
use Prim.Native.Nat.{ℕ, zero, suc, ◌≤◌, ◌<◌}
use native.Mathlib.Decide.{dec_le}
use native.Mathlib.Numerals.{add-one}
use native.Mathlib.Omega.{arith}
use lib.ListN.{length, get_or, take, length-append, length-take, get_or-append}
use lib.Seq.{get_or_at, get_or-take, ext_get_or}
use Rattle.rules.specs.Answers.{first_words}
use Rattle.rules.specs.Lists.{listed}

pub map-listed : {A B : Type 0} (g : A → B) (f : ℕ → A) (n : ℕ) → map g (listed f n) ≡ listed (λ k. g (f k)) n
unfolding listed
map-listed g f zero = refl
map-listed g f (suc n) = map-append g (listed f n) (f n ∷ []) ∙ rw (map-listed g f n)

module _ {A : Type 0} (f : ℕ → A) where
  pub length-listed : (n : ℕ) → length (listed f n) ≡ n
  unfolding listed
  length-listed zero = refl
  length-listed (suc n) = simp (length-append, length-listed n, add-one)

  pub get_d_listed : (n i : ℕ) (d : A) → i < n → get_or (listed f n) i d ≡ f i
  unfolding listed
  get_d_listed zero i d h = absurd (omega arith)
  get_d_listed (suc n) i d h = go (get_d_listed n i d) (dec_le (suc i) n)
    where
      go : (i < n → get_or (listed f n) i d ≡ f i) → Dec (suc i ≤ n) → get_or (listed f n ++ (f n ∷ [])) i d ≡ f i
      go before (yes l) =
          let e : length (listed f n) ≡ n = length-listed n in
          get_or-append (listed f n) (f n ∷ []) d i (omega arith) ∙ before l
      go before (no l) =
          let e : n ≡ i = omega (arith, l) in
          get_or_at (listed f n) (f n) [] d i (length-listed n ∙ e) ∙ ap f e

  -- a list whose items are f's values
  pub listed-is : (n : ℕ) (d : A) (xs : List A) → length xs ≡ n → ((k : ℕ) → k < n → f k ≡ get_or xs k d) → listed f n ≡ xs
  listed-is n d xs each same =
      ext_get_or d (listed f n) xs (length-listed n ∙ sym each)
      (λ k l. let own : k < n = omega (arith, length-listed n) in get_d_listed n k d own ∙ same k own)

-- ---- The first words of a space

-- those of a space that begins with some words
pub first_words_lem : (words rest : List ℕ) (count : ℕ) → length words ≡ count → first_words count (words ++ rest) ≡ words
first_words_lem words rest count long = listed-is _ count 0 words long (λ i l. get_or-append words rest 0 i (omega arith))

pub first_taken : (space : List ℕ) (count : ℕ) → count ≤ length space → first_words count space ≡ take count space
first_taken space count few =
    listed-is _ count 0 (take count space) (length-take count space ∙ omega arith) (λ i l. sym (get_or-take count space i 0 l))
