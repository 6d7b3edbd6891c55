-- Clause 1.5 of docs/RULES.md: words of 32 bits.
use Rattle.std.specs.Prelude.{List, ℕ, ◌+◌, ◌*◌, ◌/◌, ◌%◌, get_or}
use Rattle.rules.specs.declared.Word.{Word}

-- [1.5] The kind of a word is its upper 4 bits, the value its other 28.
abbrev pub word_of : ℕ → Word
word_of w = record { kind = w / 0x1000_0000; value = w % 0x1000_0000 }

-- [1.5] Word number i of a list, counted from 0; one that is not there reads as 0.
abbrev pub word_at : List ℕ → ℕ → Word
word_at ws i = word_of (get_or ws i 0)

-- [1.5] The word of a kind and a value.
abbrev pub word : ℕ → ℕ → ℕ
word kind value = kind * 0x1000_0000 + value
