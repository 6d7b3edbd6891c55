-- `order_count` meets its contract: the number of orders is the value of word 4, and a word that is not there reads as 0.
use mathlib.Core.Path.{sym, ap}
use native.Mathlib.Omega.{arith}
use Prim.Native.Nat.{ℕ, ◌%◌}
use lib.ListN.{get_or-eq_default}
use Rattle.rules.specs.Sheet.{heading_from, heading_of}
use Rattle.rules.specs.declared.Word.{Word}
use Rattle.sheet.proofs.order_count.Goals as goal

pub returns-then-words-lt-HEADING_WORDS : goal.returns-then-words-lt-HEADING_WORDS
unfolding heading_of heading_from
returns-then-words-lt-HEADING_WORDS c = ap (λ (w : ℕ). w % 0x1000_0000) (sym (get_or-eq_default c.args.words.now 0 {n = 4} (omega arith)))

pub returns : goal.returns
unfolding heading_of heading_from
returns c = ap (λ (w : Word). w.value) c.word_of.ensures
