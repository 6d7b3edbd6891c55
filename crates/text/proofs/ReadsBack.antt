-- What the opening program prints, the archive program reads back. Line k of the lines of some words is the line of word k; a digit printed
-- has its own value; and by induction over the digits they make the number of which they are printed.
use mathlib.Core.Bool.{true}
use mathlib.Core.List.{List, [], ◌∷◌}
use mathlib.Core.Logic.{◌⊎◌, inl, inr}
use mathlib.Core.Path.{◌≡◌, refl, sym, ap, ◌∙◌}
use Prim.Native.Nat.{ℕ, zero, suc, ◌+◌, ◌*◌, ◌/◌, ◌%◌, ◌^◌, ◌≤◌, ◌<◌}
use native.Mathlib.Decide.{dec_le}
use native.Mathlib.Nat.{pow-suc, div-lt_iff_lt-mul}
use native.Mathlib.Omega.{arith}
use lib.Dec.{ltb}
use lib.ListN.{length, get_or, length-append, get_or-append}
use lib.Seq.{get_or_at, get_or-append-add}
use borrow.Author.Tests.{lt-ltb, le-ltb, le-leb, eq-eqb}
use Rattle.claims.proofs.Sums.{last_or_before}
use Rattle.claims.proofs.Totals.{every_from}
use Rattle.io.specs.Digits.{hex_digit_ascii, last_digits}
use Rattle.rules.proofs.Lists.{listed-is}
use Rattle.rules.specs.Listing.{word_line, word_lines}
use Rattle.rules.specs.Pages.{digit_value, digit_on, line_fits, most_listed, listing_fits, word_on, result_in}
use Rattle.text.proofs.Printing.{length_line, length_lines}
use Rattle.text.proofs.Reading.{figure_value, letter_value, number_to, number_same, eight_digits}

-- ---- The digits of a number

glyph_value : (d : ℕ) → d < 16 → digit_value (hex_digit_ascii d) ≡ d
glyph_value d small = go (dec_le 10 d)
  where
    go : Dec (10 ≤ d) → digit_value (hex_digit_ascii d) ≡ d
    go (yes letter) = rw (le-ltb d 10 letter) (omega (arith, letter_value (87 + d) (omega arith) (omega arith)))
    go (no figure) =
        let below : d < 10 = omega (arith, figure) in
        rw (lt-ltb d 10 below) (omega (arith, figure_value (48 + d) (omega arith) (omega arith)))

-- digit j of a number that is printed in k digits, as it is read
abbrev value_at : ℕ → ℕ → ℕ → ℕ
value_at k n j = digit_value (get_or (last_digits 16 k n) j 0)

length_digits : (k n : ℕ) → length (last_digits 16 k n) ≡ k
length_digits zero n = refl
length_digits (suc k) n = simp length-append (omega (arith, length_digits k (n / 16)))

last_value : (k n : ℕ) → value_at (suc k) n k ≡ n % 16
last_value k n =
    ap digit_value (get_or_at (last_digits 16 k (n / 16)) (hex_digit_ascii (n % 16)) [] 0 k (length_digits k (n / 16)))
    ∙ glyph_value (n % 16) (omega arith)

value_before : (k n j : ℕ) → j < k → value_at (suc k) n j ≡ value_at k (n / 16) j
value_before k n j l =
    let within : j < length (last_digits 16 k (n / 16)) = omega (arith, length_digits k (n / 16)) in
    ap digit_value (get_or-append (last_digits 16 k (n / 16)) (hex_digit_ascii (n % 16) ∷ []) 0 j within)

value_small : (k n j : ℕ) → j < k → value_at k n j < 16
value_small zero n j l = absurd (omega arith)
value_small (suc k) n j l = go (last_or_before l) (value_small k (n / 16) j)
  where
    go : (j ≡ k) ⊎ (j < k) → (j < k → value_at k (n / 16) j < 16) → value_at (suc k) n j < 16
    go (inl last) before = rw (last, last_value k n) (omega arith)
    go (inr less) before = rw (value_before k n j less) (before less)

number_printed : (k n : ℕ) → n < 16 ^ k → number_to (value_at k n) k ≡ n
unfolding number_to
number_printed zero n small = omega arith
number_printed (suc k) n small =
    let fewer : n / 16 < 16 ^ k = (div-lt_iff_lt-mul {k = 16} {x = n} {y = 16 ^ k} (omega arith)).1 (omega (arith, pow-suc 16 k)) in
    rw (number_same (value_at (suc k) n) (value_at k (n / 16)) k (value_before k n), number_printed k (n / 16) fewer, last_value k n)
    (omega arith)

-- ---- A line

byte_printed : (ws : List ℕ) (k j : ℕ) → k < length ws → j < 9
    → get_or (word_lines ws) (9 * k + j) 0 ≡ get_or (word_line (get_or ws k 0)) j 0
unfolding word_lines
byte_printed [] k j l m = absurd (omega arith)
byte_printed (w ∷ ws) zero j l m =
    let first : 9 * 0 + j ≡ j = omega arith in
    rw first (get_or-append (word_line w) (word_lines ws) 0 j (omega (arith, length_line w)))
byte_printed (w ∷ ws) (suc k) j l m =
    let later : 9 * suc k + j ≡ length (word_line w) + (9 * k + j) = omega (arith, length_line w) in
    rw (later, get_or-append-add (word_line w) (word_lines ws) (9 * k + j) 0) (byte_printed ws k j (omega arith) m)

module _ (ws : List ℕ) (k : ℕ) (own : k < length ws) where
  digit_printed : (j : ℕ) → j < 8 → digit_on (word_lines ws) k j ≡ value_at 8 (get_or ws k 0) j
  unfolding word_line
  digit_printed j l =
      ap digit_value (byte_printed ws k j own (omega arith)
      ∙ get_or-append (last_digits 16 8 (get_or ws k 0)) (10 ∷ []) 0 j l)

  line_fits_printed : line_fits (word_lines ws) k ≡ true
  unfolding line_fits word_line
  line_fits_printed =
      rw (every_from (λ j. ltb (digit_on (word_lines ws) k j) 16) 8
      (λ j l. rw (digit_printed j l) (lt-ltb (value_at 8 (get_or ws k 0) j) 16 (value_small 8 (get_or ws k 0) j l))))
      (eq-eqb (get_or (word_lines ws) (9 * k + 8) 0) 10 (byte_printed ws k 8 own (omega arith)))

  word_printed : get_or ws k 0 < 0x1_0000_0000 → word_on (word_lines ws) k ≡ get_or ws k 0
  word_printed small =
      sym (eight_digits (word_lines ws) k)
      ∙ number_same (digit_on (word_lines ws) k) (value_at 8 (get_or ws k 0)) 8 digit_printed
      ∙ number_printed 8 (get_or ws k 0) small

-- ---- All lines

-- the lines of some words fit, and are read as those words
pub record ReadBack (ws : List ℕ) : Type 0 where
  pub fits : listing_fits (word_lines ws) ≡ true
  pub read : result_in (word_lines ws) ≡ ws

pub lines_read : (ws : List ℕ) → ((k : ℕ) → k < length ws → get_or ws k 0 < 0x1_0000_0000) → length ws ≤ 15005 → ReadBack ws
unfolding listing_fits result_in
lines_read ws small few =
    let text = word_lines ws in
    let long : length text ≡ 9 * length ws = length_lines ws in
    let count : length text / 9 ≡ length ws = omega arith in
    record {
      fits = rw (eq-eqb (length text % 9) 0 (omega arith), le-leb (length text) most_listed (omega arith))
          (every_from (line_fits text) (length text / 9) (λ k l. line_fits_printed ws k (omega arith)));
      read = listed-is (word_on text) (length text / 9) 0 ws (sym count)
          (λ k l. word_printed ws k (omega arith) (small k (omega arith)));
    }
