-- Clauses 11.1–11.5 of docs/RULES.md: what the opening program prints for the bytes that it reads, with refusal 12.
use Rattle.std.specs.Prelude.{Bool, not, ◌&&◌, cond, List, [], ◌∷◌, ◌++◌, ◌≡◌, ℕ, zero, suc, ◌+◌, ◌*◌, ◌/◌, ◌%◌, leb, ltb, eqb, length, get_or, drop}
use Prim.Native.Char.{code}
use Prim.Native.String.{String, [] as empty, ◌∷◌ as ◌and◌}
use Rattle.io.specs.Digits.{hex_digit_ascii, last_digits}
use Rattle.rules.specs.Answers.{Answer, gives, refuses, row, downwards}
use Rattle.rules.specs.Lists.{listed}
use Rattle.rules.specs.Opening.{opening_words}
use Rattle.rules.specs.Sheet.{sheet_checks}

-- ---- The sheet

-- [11.1] The most bytes of a sheet that the program reads.
abbrev pub most_bytes : ℕ
most_bytes = 1464

-- [11.1] A whole number of words, and not too many.
unfoldable pub input_fits : List ℕ → Bool
input_fits bytes = eqb (length bytes % 4) 0 && leb (length bytes) most_bytes

-- [11.2] Word i of the bytes, high byte first.
unfoldable pub word_in : List ℕ → ℕ → ℕ
word_in bytes i =
    get_or bytes (4 * i) 0 * 0x100_0000
    + get_or bytes (4 * i + 1) 0 * 0x1_0000
    + get_or bytes (4 * i + 2) 0 * 0x100
    + get_or bytes (4 * i + 3) 0

-- [11.2] The words of the bytes.
unfoldable pub sheet_in : List ℕ → List ℕ
sheet_in bytes = listed (word_in bytes) (length bytes / 4)

-- ---- The printed text, in ASCII

-- [11.3] The codes of a text.
abbrev pub ascii : String → List ℕ
ascii empty = []
ascii (c and s) = code c ∷ ascii s

-- [11.3] The line of a word: its 8 hexadecimal digits and a newline.
unfoldable pub word_line : ℕ → List ℕ
word_line w = last_digits 16 8 w ++ ascii "\n"

-- [11.3] The lines of words, one after the other.
unfoldable pub word_lines : List ℕ → List ℕ
word_lines [] = []
word_lines (w ∷ ws) = word_line w ++ word_lines ws

-- [11.4] A number in decimal: the last figure is n % 10, those before it are the figures of n / 10. Here at most
-- `most` of them.
unfoldable pub figures_in : ℕ → ℕ → List ℕ
figures_in zero n = []
figures_in (suc most) n = cond (ltb n 10) [] (figures_in most (n / 10)) ++ (hex_digit_ascii (n % 10) ∷ [])

-- [11.4] All figures of a number; n has no more than n + 1.
unfoldable pub figures : ℕ → List ℕ
figures n = figures_in (n + 1) n

-- [11.4] The line of a refusal: `refused`, its number and its place.
unfoldable pub refusal_line : ℕ → ℕ → List ℕ
refusal_line number place =
    ascii "refused " ++ figures number ++ ascii " " ++ figures place ++ ascii "\n"

-- [11.5] The text of an answer.
unfoldable pub printed_answer : Answer → List ℕ
printed_answer (gives words) = word_lines words
printed_answer (refuses number place) = refusal_line number place

-- [11.5] What the program answers: the bytes are checked first, then the sheet; an accepted sheet gives the words of
-- its opening.
unfoldable pub program_answer : List ℕ → Answer
program_answer bytes =
    downwards (row 12 (not (input_fits bytes)) ∷ sheet_checks (sheet_in bytes)) (gives (opening_words (sheet_in bytes)))

-- [11.5] What the program prints for the bytes that it reads.
abbrev pub printed : List ℕ → List ℕ
printed bytes = printed_answer (program_answer bytes)

-- [11.5] A text in front of a lent space: the count of its bytes, with what the space held before and holds after.
pub record InFront (text before after : List ℕ) (count : ℕ) : Type 0 where
  pub counted : count ≡ length text
  -- beyond the text the space keeps its content
  pub holds : after ≡ text ++ drop count before

-- [11.5] The program's text for the bytes that it reads, in front of a lent space.
abbrev pub Printed : (bytes before after : List ℕ) → ℕ → Type 0
Printed bytes before after count = InFront (printed bytes) before after count
