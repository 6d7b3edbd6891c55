-- Clauses 3.1–3.14 of docs/RULES.md: what a sheet says, and refusals 1–8, 15 and 17.
use Rattle.std.specs.Prelude.{Bool, not, ◌&&◌, ◌||◌, cond, List, [], ◌∷◌, ◌++◌, ◌≡◌, ℕ, zero, suc, ◌+◌, ◌*◌, ◌/◌, ◌%◌, leb, ltb, eqb, length}
use Rattle.rules.specs.Answers.{Answer, gives, Check, row, row_at, verdict}
use Rattle.rules.specs.Grid.{on_grid}
use Rattle.rules.specs.Lists.{listed}
use Rattle.rules.specs.Words.{word_at}
use Rattle.rules.specs.declared.Heading.{Heading}
use Rattle.rules.specs.declared.Order.{Order}
use Rattle.rules.specs.declared.Side.{Side}
use Rattle.rules.specs.declared.Side.TheVariants.{Buy, Sell}
use Rattle.rules.specs.declared.Terms.{Terms}
use Rattle.rules.specs.declared.Terms.TheVariants.{WithoutLimit, Limited, Stepper}
use Rattle.rules.specs.declared.Word.{Word}

-- ---- Where a sheet's words stand

-- [3.1] A layout: how many words the heading has, and how many each order.
pub record Layout : Type 0 where
  pub heading : ℕ
  pub order : ℕ

-- [3.1] Where the words of order k begin; of k = n, the number of orders, it is the length of the sheet.
abbrev pub order_place : Layout → ℕ → ℕ
order_place l k = l.heading + l.order * k

-- [3.1] A plain sheet has a heading of 5 words, one with a step word a heading of 6; an order has 3.
abbrev pub plain : Layout
plain = record { heading = 5; order = 3 }

abbrev pub with_step : Layout
with_step = record { heading = 6; order = 3 }

-- [3.1] The length alone tells which it is: with a step word, if it is the length of such a sheet of n orders; a sheet of any
-- other length is judged as plain.
unfoldable pub layout_for : ℕ → ℕ → Layout
layout_for n words = cond (eqb words (order_place with_step n)) with_step plain

-- [3.1] The layout of a sheet, whose word 4 says n.
abbrev pub layout_of : List ℕ → Layout
layout_of ws = layout_for (word_at ws 4).value (length ws)

-- ---- The heading

-- [3.1a] The step word is word 5. A sheet that has none means the same as with one of kind 0 and value 1.
unfoldable pub step_word : List ℕ → Word
step_word ws = cond (eqb (layout_of ws).heading 6) (word_at ws 5) (record { kind = 0; value = 1 })

-- [3.2] The kinds of the first five words, 1 to 5.
unfoldable pub heading_kinds : Word → Word → Word → Word → Word → Bool
heading_kinds a b c d e =
    eqb a.kind 1 && eqb b.kind 2 && eqb c.kind 3 && eqb d.kind 4 && eqb e.kind 5

-- [3.2] D, H, the last purchase price, I and n are the values of the first five words, the step is that of the step word.
unfoldable pub heading_from : Word → Word → Word → Word → Word → Word → Heading
heading_from a b c d e f = record {
  lower = record { 0 = a.value };
  upper = record { 0 = b.value };
  last = record { 0 = c.value };
  indicative = record { 0 = d.value };
  count = e.value;
  step = record { 0 = f.value };
}

-- [3.2] The heading of a sheet, and its D, H and I.
unfoldable pub heading_of : List ℕ → Heading
heading_of ws = heading_from (word_at ws 0) (word_at ws 1) (word_at ws 2) (word_at ws 3) (word_at ws 4) (step_word ws)

abbrev pub D : Heading → ℕ
D h = h.lower.0

abbrev pub H : Heading → ℕ
H h = h.upper.0

abbrev pub I : Heading → ℕ
I h = h.indicative.0

-- [3.3] All four prices are on the grid.
unfoldable pub prices_on_grid : Heading → Bool
prices_on_grid h = on_grid h.lower.0 && on_grid h.upper.0 && on_grid h.last.0 && on_grid h.indicative.0

-- [3.4] D is below I, and I below H.
unfoldable pub band_encloses : Heading → Bool
band_encloses h = ltb h.lower.0 h.indicative.0 && ltb h.indicative.0 h.upper.0

-- [3.4a] The step word has kind 0, and the step is 1 to 1,000.
unfoldable pub step_allowed : Word → Bool
step_allowed f = eqb f.kind 0 && leb 1 f.value && leb f.value 1000

-- [3.5] The most orders of a sheet.
abbrev pub most_orders : ℕ
most_orders = 120

-- [3.5] There are no more than that, and as many words as heading and orders have in the sheet's layout.
unfoldable pub length_fits : ℕ → ℕ → Bool
length_fits n words = leb n most_orders && eqb words (order_place (layout_for n words) n)

-- ---- An order

-- [3.6] Kind 6 or 7, for the side; then 8, with the quantity; then 9, with the ignored quantity.
unfoldable pub order_kinds : Word → Word → Word → Bool
order_kinds a b c = (eqb a.kind 6 || eqb a.kind 7) && eqb b.kind 8 && eqb c.kind 9

-- [3.6] Of the first word's value the lower 24 bits are the limit, the 4 above them the disposition.
abbrev pub limit_in : Word → ℕ
limit_in a = a.value % 0x100_0000

abbrev pub disposition_in : Word → ℕ
disposition_in a = a.value / 0x100_0000

-- [3.7] Disposition 0, 1 or 2; a price of the grid as limit, or 0 for none unless the order is a Stepper.
unfoldable pub terms_allowed : ℕ → ℕ → Bool
terms_allowed disposition limit = leb disposition 2 && (eqb limit 0 && not (eqb disposition 2) || on_grid limit)

-- [3.8] 1 to 1,000,000 pieces.
unfoldable pub quantity_allowed : ℕ → Bool
quantity_allowed quantity = leb 1 quantity && leb quantity 1000000

-- [3.9] A Stepper may ignore up to 1,000,000 pieces, every other order none.
unfoldable pub ignored_allowed : ℕ → ℕ → Bool
ignored_allowed disposition ignored = leb ignored 1000000 && (eqb ignored 0 || eqb disposition 2)

-- [3.10] Kind 6 buys, kind 7 sells.
unfoldable pub side_of : ℕ → Side
side_of kind = cond (eqb kind 6) Buy Sell

-- [3.10] Disposition 2 is a Stepper, with its limit and what it ignores. Otherwise limit 0 is no limit, and
-- disposition 1 all-or-none.
unfoldable pub terms_of : ℕ → ℕ → ℕ → Terms
terms_of disposition limit ignored =
    cond (eqb disposition 2)
    (Stepper (record { 0 = limit }) (record { 0 = ignored }))
    (cond (eqb limit 0) (WithoutLimit (eqb disposition 1)) (Limited (record { 0 = limit }) (eqb disposition 1)))

-- [3.10] The order that the values of its three words give.
unfoldable pub order_from : Word → Word → Word → Order
order_from a b c = record {
  side = side_of a.kind;
  terms = terms_of (disposition_in a) (limit_in a) c.value;
  quantity = record { 0 = b.value };
}

-- [3.10] The order in the three words from a place on.
abbrev pub order_in : List ℕ → ℕ → Order
order_in ws at = order_from (word_at ws at) (word_at ws (at + 1)) (word_at ws (at + 2))

-- [3.11] Order k, as filed.
unfoldable pub order_at : List ℕ → ℕ → Order
order_at ws k = order_in ws (order_place (layout_of ws) k)

-- [3.11] The orders of a sheet.
unfoldable pub orders_of : List ℕ → List Order
orders_of ws = listed (order_at ws) (heading_of ws).count

-- ---- Where a refusal arises

-- [3.12] The heading's rows: too short; kinds; prices; the band and I; the step word; the number of orders and the length.
unfoldable pub heading_checks : List ℕ → List Check
heading_checks ws =
    row 1 (ltb (length ws) plain.heading)
    ∷ row 2 (not (heading_kinds (word_at ws 0) (word_at ws 1) (word_at ws 2) (word_at ws 3) (word_at ws 4)))
    ∷ row 3 (not (prices_on_grid (heading_of ws)))
    ∷ row 15 (not (band_encloses (heading_of ws)))
    ∷ row 17 (not (step_allowed (step_word ws)))
    ∷ row 4 (not (length_fits (heading_of ws).count (length ws)))
    ∷ []

-- [3.13] The rows of order k: kinds; disposition and limit; quantity; ignored quantity.
unfoldable pub order_checks : ℕ → Word → Word → Word → List Check
order_checks k a b c =
    row_at k 5 (not (order_kinds a b c))
    ∷ row_at k 6 (not (terms_allowed (disposition_in a) (limit_in a)))
    ∷ row_at k 7 (not (quantity_allowed b.value))
    ∷ row_at k 8 (not (ignored_allowed (disposition_in a) c.value))
    ∷ []

-- [3.13] The checks of order k, in the three words from a place on.
abbrev pub checks_in : List ℕ → ℕ → ℕ → List Check
checks_in ws at k = order_checks k (word_at ws at) (word_at ws (at + 1)) (word_at ws (at + 2))

-- [3.13] The checks of the first n orders, from order 0 on.
unfoldable pub orders_checks : List ℕ → ℕ → List Check
orders_checks ws zero = []
orders_checks ws (suc k) = orders_checks ws k ++ checks_in ws (order_place (layout_of ws) k) k

-- [3.14] The heading is judged first, then the orders.
unfoldable pub sheet_checks : List ℕ → List Check
sheet_checks ws = heading_checks ws ++ orders_checks ws (heading_of ws).count

-- [3.14] The call that checks a sheet.
unfoldable pub check_sheet : List ℕ → Answer
check_sheet ws = verdict (sheet_checks ws)

-- [3.14] The sheet is accepted: nothing is refused.
abbrev pub AcceptedSheet : List ℕ → Type 0
AcceptedSheet ws = check_sheet ws ≡ gives []
