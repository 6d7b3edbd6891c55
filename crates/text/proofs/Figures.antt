-- A number in the library's digits: the fewest hexadecimal digits, and no fewer than 8, of a 32-bit word are 8, and the fewest decimal
-- digits of a number are its figures.
use mathlib.Core.List.{List, [], ◌∷◌, ◌++◌}
use mathlib.Core.Path.{◌≡◌, ap}
use Prim.Native.Nat.{ℕ, zero, suc, ◌+◌, ◌-◌, ◌/◌, ◌%◌, ◌^◌, ◌≤◌, ◌<◌}
use native.Mathlib.Decide.{dec_le}
use native.Mathlib.Nat.{pow-le-pow_right, pow-suc, div-lt_iff_lt-mul, le-div_iff_mul-le, one-le-pow}
use native.Mathlib.Omega.{arith}
use borrow.Author.Tests.{lt-ltb, le-ltb}
use Rattle.io.specs.Digits.{hex_digit_ascii, last_digits, IsDigitCount}
use Rattle.rules.specs.Listing.{figures_in, figures}

-- where so many digits hold a number, and no more are asked for, the fewest are no more
fewest_most : (base least most : ℕ) {n count : ℕ} → 0 < base → least ≤ most → n < base ^ most → IsDigitCount base least n count
    → count ≤ most
fewest_most base least most {n} {count} some enough small fewest = go (dec_le count most)
  where
    go : Dec (count ≤ most) → count ≤ most
    go (yes few) = few
    go (no more) =
        let long : most ≤ count - 1 = omega (arith, more) in
        let large : base ^ most ≤ base ^ (count - 1) = pow-le-pow_right some long in
        absurd (omega (arith, fewest.2 (omega (arith, more))))

pub hex_digits : {word count : ℕ} → word < 0x1_0000_0000 → IsDigitCount 16 8 word count → count ≡ 8
hex_digits {word} {count} small fewest =
    let few : count ≤ 8 = fewest_most 16 8 8 (omega arith) (omega arith) small fewest in
    omega (arith, fewest.0)

-- a number of count + 1 figures: they are the same one after the other, from the last
digits_are : (count most n : ℕ) → n < 10 ^ suc count → (1 ≤ count → 10 ^ count ≤ n) → n < most
    → last_digits 10 (suc count) n ≡ figures_in most n
unfolding figures_in
digits_are count zero n below above fuel = absurd (omega arith)
digits_are zero (suc most) n below above fuel = rw (lt-ltb n 10 (omega arith))
digits_are (suc count) (suc most) n below above fuel =
    let least : 10 ^ suc count ≤ n = above (omega arith) in
    let some : 1 ≤ 10 ^ count = one-le-pow count 10 (omega arith) in
    let ten : 10 ≤ n = omega (arith, pow-suc 10 count) in
    let fewer : n / 10 < 10 ^ suc count =
    (div-lt_iff_lt-mul {k = 10} {x = n} {y = 10 ^ suc count} (omega arith)).1 (omega (arith, pow-suc 10 (suc count))) in
    let enough : 10 ^ count ≤ n / 10 =
    (le-div_iff_mul-le {k = 10} {x = 10 ^ count} {y = n} (omega arith)).1 (omega (arith, pow-suc 10 count)) in
    rw (le-ltb n 10 ten)
    (ap (λ (front : List ℕ). front ++ (hex_digit_ascii (n % 10) ∷ [])) (digits_are count most (n / 10) fewer (λ l. enough) (omega arith)))

pub decimal_figures : {n count : ℕ} → IsDigitCount 10 1 n count → last_digits 10 count n ≡ figures n
unfolding figures
decimal_figures {n} {count} fewest = go count fewest
  where
    go : (count : ℕ) → IsDigitCount 10 1 n count → last_digits 10 count n ≡ figures_in (n + 1) n
    go zero fewest = absurd (omega (arith, fewest.0))
    go (suc count) fewest =
        let one_less : suc count - 1 ≡ count = omega arith in
        digits_are count (n + 1) n fewest.1 (λ l. rw one_less at (fewest.2 (omega arith))) (omega arith)
