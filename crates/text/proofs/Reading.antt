-- The lines that are read, each by itself: as the text's line of that number it fits, and has that word. Each further digit makes sixteen
-- times the number before it and the digit: eight of them make a line's word, and with digits below 16 it has 32 bits.
use mathlib.Core.Bool.{Bool, true, false, not, cond, ◌&&◌, ◌||◌}
use mathlib.Core.List.{List}
use mathlib.Core.Path.{◌≡◌, refl, sym, ap, ◌∙◌}
use Prim.Native.Nat.{ℕ, zero, suc, ◌+◌, ◌-◌, ◌*◌, ◌/◌, ◌%◌, ◌^◌, ◌≤◌, ◌<◌, zero-le}
use native.Mathlib.Nat.{pow-suc, pow-le-pow_right, zero-add}
use native.Mathlib.Omega.{arith}
use lib.Dec.{leb, ltb, eqb}
use lib.ListN.{length, get_or, take, length-take}
use borrow.Author.Tests.{ltb-true, leb-true, lt-ltb, le-leb, lt-leb}
use Rattle.claims.proofs.Totals.{every_at, every_from}
use Rattle.rules.proofs.Grid.{both}
use Rattle.rules.specs.Lists.{every_to}
use Rattle.rules.specs.Pages.{digit_value, digit_on, line_fits, most_listed, listing_fits, word_on}
use Rattle.std.proofs.lemmas.Bool.Decides.{nat_tests}
use Rattle.std.proofs.lemmas.List.{get_or-take}
use Rattle.std.specs.Bool.{MatchBool}
use Rattle.std.specs.List.{AllWithin, HoldsAt}
use Rattle.text.proofs.Chunks.{chunk_of, byte_in}

-- ---- Tests of the items of a list

-- what `all` tells of a list is the rules' test of its places
pub told_every : {X : Type 0} (p : X → Bool) (xs : List X) (d : X) (P : ℕ → Bool) {n : ℕ} → length xs ≡ n
    → ((k : ℕ) → k < n → p (get_or xs k d) ≡ P k) → (r : Bool)
    → MatchBool r (AllWithin (λ x. p x ≡ true) xs 0 (length xs)) ((k : ℕ) × (k < length xs) × HoldsAt (λ x. p x ≡ false) xs k)
    → r ≡ every_to P n
told_every p xs d P {n} long same true all = sym (every_from P n (λ k l. sym (same k l) ∙ all k d zero-le (omega arith)))
told_every p xs d P {n} long same false (k, l, fails) = go (every_to P n) refl
  where
    go : (t : Bool) → every_to P n ≡ t → false ≡ t
    go false e = refl
    go true e = let passes : P k ≡ true = every_at P n k e (omega arith) in let off : p (get_or xs k d) ≡ P k = same k (omega arith) in
        let on : p (get_or xs k d) ≡ false = fails d in cc

pub every_same : (P Q : ℕ → Bool) (n : ℕ) → ((k : ℕ) → k < n → P k ≡ Q k) → every_to P n ≡ every_to Q n
unfolding every_to
every_same P Q zero same = refl
every_same P Q (suc n) same = rw (every_same P Q n (λ k l. same k (omega arith)), same n (omega arith))

-- ---- The value of a digit

module _ (byte : ℕ) where
  pub figure_value : 48 ≤ byte → byte ≤ 57 → byte - 48 ≡ digit_value byte
  unfolding digit_value
  figure_value low high = rw (le-leb 48 byte low, le-leb byte 57 high)

  pub letter_value : 97 ≤ byte → byte ≤ 102 → byte - 87 ≡ digit_value byte
  unfolding digit_value
  letter_value low high =
      rw (le-leb 48 byte (omega arith), lt-leb byte 57 (omega arith), le-leb 97 byte low, le-leb byte 102 high)

-- a byte is a digit where its value is below 16
pub digit_tested : (byte : ℕ) → ((leb 48 byte && leb byte 57) || (leb 97 byte && leb byte 102)) ≡ ltb (digit_value byte) 16
unfolding digit_value
digit_tested byte = go (leb 48 byte && leb byte 57) (leb 97 byte && leb byte 102) refl refl
  where
    go : (figure letter : Bool) → (leb 48 byte && leb byte 57) ≡ figure → (leb 97 byte && leb byte 102) ≡ letter
        → (figure || letter) ≡ ltb (cond figure (byte - 48) (cond letter (byte - 87) 16)) 16
    go true letter is e = sym (lt-ltb (byte - 48) 16 (omega (arith, leb-true byte 57 (both {a = leb 48 byte} is).1)))
    go false true is e = sym (lt-ltb (byte - 87) 16 (omega (arith, leb-true byte 102 (both {a = leb 97 byte} e).1)))
    go false false is e = refl

-- ---- The word of a line

-- the number that the first j of some digits make
unfoldable pub number_to : (ℕ → ℕ) → ℕ → ℕ
number_to d zero = 0
number_to d (suc j) = 16 * number_to d j + d j

number_below : (d : ℕ → ℕ) (j : ℕ) → ((k : ℕ) → k < j → d k < 16) → number_to d j < 16 ^ j
unfolding number_to
number_below d zero small = omega arith
number_below d (suc j) small =
    omega (arith, pow-suc 16 j, number_below d j (λ k l. small k (omega arith)), small j (omega arith))

pub number_same : (d e : ℕ → ℕ) (k : ℕ) → ((j : ℕ) → j < k → d j ≡ e j) → number_to d k ≡ number_to e k
unfolding number_to
number_same d e zero same = refl
number_same d e (suc k) same = rw (number_same d e k (λ j l. same j (omega arith)), same k (omega arith))

pub eight_digits : (text : List ℕ) (i : ℕ) → number_to (digit_on text i) 8 ≡ word_on text i
unfolding number_to word_on
eight_digits text i = omega arith

-- the digits are the first eight bytes of a line
module _ (line : List ℕ) {j : ℕ} where
  pub front_place : j < length (take 8 line) → length line ≡ 9 → j < 8
  front_place more long = omega (arith, simp length-take at more)

  pub digit_read : j < 8 → digit_value (get_or (take 8 line) j 0) ≡ digit_on line 0 j
  digit_read l = rw (zero-add j, get_or-take 8 line j 0 l)

-- a digit of a line that fits is below 16, and with it the number has 32 bits
module _ (text : List ℕ) (i : ℕ) (fits : line_fits text i ≡ true) where
  pub digit_fits : (j : ℕ) → j < 8 → ltb (digit_on text i j) 16 ≡ true
  unfolding line_fits
  digit_fits j l = every_at (λ k. ltb (digit_on text i k) 16) 8 j (both fits).0 l

  pub number_fits : (j : ℕ) → j < 8 → 16 * number_to (digit_on text i) j + digit_on text i j < 0x1_0000_0000
  unfolding number_to
  number_fits j l =
      let most : 16 ^ suc j ≤ 16 ^ 8 = pow-le-pow_right (omega arith) {i = suc j} {j = 8} (omega arith) in
      let digit : (k : ℕ) → k < 8 → digit_on text i k < 16 = λ k m. ltb-true (digit_on text i k) 16 (digit_fits k m) in
      omega (arith, number_below (digit_on text i) (suc j) (λ k m. digit k (omega arith)))

-- ---- A line by itself

module _ (text : List ℕ) (i : ℕ) where
  abbrev line : List ℕ
  line = chunk_of 9 text i

  digit_alone : (j : ℕ) → j < 9 → digit_on line 0 j ≡ digit_on text i j
  digit_alone j l = ap digit_value (rw (zero-add j) (byte_in 9 text i j l))

  pub line_alone : line_fits line 0 ≡ line_fits text i
  unfolding line_fits
  line_alone =
      rw (
        every_same (λ j. ltb (digit_on line 0 j) 16) (λ j. ltb (digit_on text i j) 16) 8 (λ j l. ap (λ d. ltb d 16) (digit_alone j (omega arith))),
        byte_in 9 text i 8 (omega arith),
      )

  pub word_alone : word_on line 0 ≡ word_on text i
  word_alone =
      sym (eight_digits line 0) ∙ number_same (digit_on line 0) (digit_on text i) 8 (λ j l. digit_alone j (omega arith)) ∙ eight_digits text i

-- each line of a text that fits does
pub line_listed : (text : List ℕ) → listing_fits text ≡ true → (i : ℕ) → 9 * i + 9 ≤ length text → line_fits text i ≡ true
unfolding listing_fits
line_listed text fits i within =
    let lines = (both {a = eqb (length text % 9) 0 && leb (length text) most_listed} fits).1 in
    every_at (line_fits text) (length text / 9) i lines (omega arith)

-- ---- Before the lines are read

-- where the lines are not whole, or the text is too long, whatever the lines say
pub unfit : (whole lines : Bool) (n most : ℕ) → (not whole || ltb most n) ≡ true → false ≡ (whole && leb n most && lines)
unfit true lines n most e = grind (arith, nat_tests)
unfit false lines n most e = refl

pub fit : (whole lines : Bool) (n most : ℕ) → (not whole || ltb most n) ≡ false → lines ≡ (whole && leb n most && lines)
fit true lines n most e = grind (arith, nat_tests)
fit false lines n most e = grind (arith, nat_tests)
