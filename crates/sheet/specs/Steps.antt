-- The steps of the reading, for the promises inside this crate: what each finds, in the terms of the rules. Serves [3.12] and [3.13].
use Rattle.std.specs.Prelude.{Bool, not, List, [], ◌≡◌, ℕ, ◌+◌, Ok, Err}
use Rattle.std.specs.declared.result.Result.{Result}
use Rattle.rules.specs.Answers.{gives, refuses, verdict, fault_number, refused}
use Rattle.rules.specs.Sheet.{plain, layout_of, step_word, heading_kinds, prices_on_grid, band_encloses, step_allowed, length_fits, heading_of, order_in, heading_checks, order_checks, checks_in}
use Rattle.rules.specs.Words.{word_at}
use Rattle.rules.specs.declared.Heading.{Heading}
use Rattle.rules.specs.declared.Order.{Order}
use Rattle.rules.specs.declared.OrderFault.{OrderFault}
use Rattle.rules.specs.declared.Refusal.{Refusal}
use Rattle.rules.specs.declared.Word.{Word}
use Rattle.sheet.specs.declared.heading.HeadingWords.{HeadingWords}
use Rattle.sheet.specs.declared.orders.OrderWords.{OrderWords}
use Rattle.words.specs.declared.cursor.Cursor.{Cursor}
use Rattle.words.specs.declared.cursor.Step.{Step}

-- The first five words of the heading, and the place after them.
abbrev pub heading_words_of : List ℕ → HeadingWords
heading_words_of ws = record {
  lower = word_at ws 0;
  upper = word_at ws 1;
  last = word_at ws 2;
  indicative = word_at ws 3;
  count = word_at ws 4;
  next = record { at = plain.heading };
}

-- The step word, said or not, and the place where the orders begin.
abbrev pub step_word_read : List ℕ → Step
step_word_read ws = record { word = step_word ws; next = record { at = (layout_of ws).heading } }

-- What refusals 2, 3, 15, 17 and 4 look for, in the words and in the heading that were read.
abbrev pub wrong_kinds : HeadingWords → Bool
wrong_kinds f = not (heading_kinds f.lower f.upper f.last f.indicative f.count)

abbrev pub wrong_prices : Heading → Bool
wrong_prices h = not (prices_on_grid h)

abbrev pub wrong_band : Heading → Bool
wrong_band h = not (band_encloses h)

abbrev pub wrong_step : Word → Bool
wrong_step f = not (step_allowed f)

abbrev pub wrong_length : ℕ → Heading → Bool
wrong_length words h = not (length_fits h.count words)

-- A heading that passes is the sheet's, and none of its checks arises; one that is refused stops with its refusal.
abbrev pub HeadingReadsAs : List ℕ → Result (Heading × Cursor) Refusal → Type 0
HeadingReadsAs ws (Ok (h, next)) =
    (verdict (heading_checks ws) ≡ gives []) × (h ≡ heading_of ws) × (next.at ≡ (layout_of ws).heading)
HeadingReadsAs ws (Err r) = verdict (heading_checks ws) ≡ refused r

-- The three words from a place on, and the place after them.
abbrev pub order_words_at : List ℕ → ℕ → OrderWords
order_words_at ws at = record {
  first = word_at ws at;
  second = word_at ws (at + 1);
  third = word_at ws (at + 2);
  next = record { at = at + 3 };
}

-- An order's checks, whatever its number: none arises, or they stop with its fault.
abbrev pub OrderCheckedAs : OrderWords → Result (Unit {0}) OrderFault → Type 0
OrderCheckedAs t (Ok tt) = (k : ℕ) → verdict (order_checks k t.first t.second t.third) ≡ gives []
OrderCheckedAs t (Err f) = (k : ℕ) → verdict (order_checks k t.first t.second t.third) ≡ refuses (fault_number f) k

-- The same of the order at a place; one that passes is what its three words say.
abbrev pub OrderReadsAs : List ℕ → ℕ → Result (Order × Cursor) OrderFault → Type 0
OrderReadsAs ws at (Ok (o, next)) =
    ((k : ℕ) → verdict (checks_in ws at k) ≡ gives []) × (o ≡ order_in ws at) × (next.at ≡ at + 3)
OrderReadsAs ws at (Err f) = (k : ℕ) → verdict (checks_in ws at k) ≡ refuses (fault_number f) k
