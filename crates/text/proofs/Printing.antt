-- The lines that are printed: a word's line has 9 bytes, and stands behind the lines of the words before it.
use mathlib.Core.List.{List, [], ◌∷◌, ◌++◌, append_assoc, append-nil}
use mathlib.Core.Path.{◌≡◌, refl, sym}
use Prim.Native.Nat.{ℕ, ◌+◌, ◌*◌, ◌<◌}
use native.Mathlib.Numerals.{add-one}
use native.Mathlib.Omega.{arith}
use lib.ListN.{length, get_or, take, length-append}
use lib.Seq.{take-suc}
use Rattle.rules.specs.Listing.{word_line, word_lines}
use Rattle.text.proofs.Writing.{◌then◌, ◌within◌}
use Rattle.text.specs.Writing.{Puts}
use Rattle.text.specs.declared.writer.Writer.{Writer}

pub length_line : (w : ℕ) → length (word_line w) ≡ 9
unfolding word_line
length_line w = refl

pub length_lines : (ws : List ℕ) → length (word_lines ws) ≡ 9 * length ws
unfolding word_lines
length_lines [] = refl
length_lines (w ∷ ws) = simp length-append (omega (arith, length_line w, length_lines ws))

lines_more : (ws : List ℕ) (w : ℕ) → word_lines (ws ++ (w ∷ [])) ≡ word_lines ws ++ word_line w
unfolding word_lines
lines_more [] w = append-nil (word_line w)
lines_more (x ∷ ws) w = rw (lines_more ws w) (sym (append_assoc (word_line x) (word_lines ws) (word_line w)))

-- the line of word i behind those of the first i words
pub lines_put : (ws : List ℕ) (i : ℕ) {before mid after : Writer} → i < length ws → Puts (9 * i) (word_lines (take i ws)) before mid
    → Puts 9 (word_line (get_or ws i 0)) mid after → Puts (9 * (i + 1)) (word_lines (take (i + 1) ws)) before after
lines_put ws i more lines line =
    rw (add-one i, take-suc ws i 0 more, lines_more (take i ws) (get_or ws i 0)) (lines then line within omega arith)
