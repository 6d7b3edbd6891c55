-- Laws of the reading, over plain values. The proofs of the functions hand their facts over to these.
-- The reading of the orders keeps, after i of them: their places are filled, the place is the next order's first word, and
-- no check of theirs arises. One more order keeps it, a faulty one stops the whole table, and the last one makes the sheet pass.
use mathlib.Core.Bool.{Bool}
use mathlib.Core.List.{List, [], ◌++◌}
use mathlib.Core.Path.{◌≡◌, refl, sym, ap, ◌∙◌}
use Prim.Native.Nat.{ℕ, zero, suc, ◌+◌, ◌*◌, ◌≤◌, ◌<◌}
use native.Mathlib.Decide.{dec_le}
use native.Mathlib.Numerals.{add-one}
use native.Mathlib.Omega.{arith}
use lib.Dec.{eqb}
use lib.ListN.{length, set, replicate, length-replicate}
use borrow.Author.Tests.{eqb-true}
use Rattle.std.specs.Prelude.{Ok, Err}
use Rattle.rules.specs.Answers.{gives, verdict, fault_number, refusal_number, refusal_place, refused}
use Rattle.rules.specs.Sheet.{Layout, order_place, with_step, layout_for, layout_of, step_word, heading_from, heading_of, order_at, checks_in, orders_of, heading_checks, orders_checks, sheet_checks, check_sheet, most_orders, AcceptedSheet}
use Rattle.rules.proofs.Accepted.{heading_passes}
use Rattle.rules.proofs.Downwards.{Clear, Stops, given_clear, refused_stops, nothing_left, clear_append, stops_first, stops_after}
use Rattle.rules.proofs.Tests.{by_test}
use Rattle.rules.specs.Words.{word_at}
use Rattle.rules.proofs.Painting.{Painted, painted_none, painted_more, painted_first}
use Rattle.rules.specs.declared.Heading.{Heading}
use Rattle.rules.specs.declared.Order.{Order}
use Rattle.rules.specs.declared.OrderFault.{OrderFault}
use Rattle.rules.specs.declared.Refusal.{Refusal}
use Rattle.rules.specs.declared.Word.{Word}
use Rattle.rules.specs.declared.Refusal.TheVariants.{Order as OrderRefusal}
use Rattle.rules.specs.Limits.{no_order}
use Rattle.sheet.specs.Reading.{places_read, AcceptedAs}
use Rattle.sheet.specs.Steps.{heading_words_of, step_word_read, HeadingReadsAs, OrderReadsAs}
use Rattle.words.specs.declared.cursor.Cursor.{Cursor}
use Rattle.sheet.specs.declared.heading.HeadingWords.{HeadingWords}

-- ---- the layout and the heading

-- in either layout an order has three words
pub place_in : (n words k : ℕ) → order_place (layout_for n words) k ≡ (layout_for n words).heading + 3 * k
unfolding layout_for
place_in n words k = by_test (λ l. order_place l k ≡ l.heading + 3 * k) (eqb words (order_place with_step n)) (λ e. refl) (λ e. refl)

-- a heading that is not of five words is of six, and they are there
pub six_words : (n words : ℕ) → ((layout_for n words).heading ≡ 5 → ⊥) → ((layout_for n words).heading ≡ 6) × (5 < words)
unfolding layout_for
six_words n words =
    by_test (λ (l : Layout). (l.heading ≡ 5 → ⊥) → (l.heading ≡ 6) × (5 < words)) (eqb words (order_place with_step n))
    (λ e more. (refl, omega (arith, eqb-true words (order_place with_step n) e)))
    (λ e more. absurd (more refl))

-- the step word, by how many words the heading has
module _ (ws : List ℕ) {f : HeadingWords} (e : f ≡ heading_words_of ws) where
  pub step_said : ((layout_for f.count.value (length ws)).heading ≡ 5 → ⊥)
      → record { word = word_at ws f.next.at; next = record { at = f.next.at + 1 } } ≡ step_word_read ws
  unfolding step_word
  step_said more = rw (e, (six_words (word_at ws 4).value (length ws) (rw e at more)).0)

  pub step_not_said : (layout_for f.count.value (length ws)).heading ≡ 5
      → record { word = record { kind = 0; value = 1 }; next = f.next } ≡ step_word_read ws
  unfolding step_word
  step_not_said five = let plain-heading : (layout_of ws).heading ≡ 5 = rw e at five in rw (e, plain-heading)

-- the heading made of the sheet's words is the sheet's
pub headed : (ws : List ℕ) {f : HeadingWords} {s : Word} {h : Heading} → f ≡ heading_words_of ws → s ≡ step_word ws
    → h ≡ heading_from f.lower f.upper f.last f.indicative f.count s → h ≡ heading_of ws
unfolding heading_of
headed ws e d made = rw (e, d) at made

-- what a test said of what was read, it says of the sheet
pub said_of : {A : Type 0} (wrong : A → Bool) {x y : A} {t r : Bool} → x ≡ y → t ≡ wrong x → t ≡ r → wrong y ≡ r
said_of wrong e told out = sym (ap wrong e) ∙ sym told ∙ out

-- ---- a refused sheet

-- a table that stops makes the sheet refused
pub refused_sheet : (ws : List ℕ) (r : Refusal) → Stops (sheet_checks ws) (refusal_number r) (refusal_place r) → check_sheet ws ≡ refused r
unfolding check_sheet
refused_sheet ws r p = p.refuses_all (gives [])

pub refused_heading : (ws : List ℕ) (r : Refusal) → HeadingReadsAs ws (Err r) → check_sheet ws ≡ refused r
unfolding sheet_checks
refused_heading ws r reads = refused_sheet ws r (stops_first _ (refused_stops (heading_checks ws) [] reads))

-- ---- an order

pub two_on : (n : ℕ) → n + 1 + 1 ≡ n + 2
two_on n = omega arith

pub three_on : (n : ℕ) → n + 2 + 1 ≡ n + 3
three_on n = omega arith

-- ---- the orders, read one after the other

-- what the loop knows after i orders
pub record SoFar (ws : List ℕ) (count : ℕ) (orders : List Order) (cursor : Cursor) (i : ℕ) : Type 0 where
  pub counted : count ≡ (heading_of ws).count
  pub fits : count ≤ most_orders
  pub words : length ws ≡ (layout_of ws).heading + 3 * count
  pub few : i ≤ count
  pub place : cursor.at ≡ (layout_of ws).heading + 3 * i
  pub places : Painted (order_at ws) (replicate most_orders no_order) orders i
  pub clear : Clear (orders_checks ws i)

pub so_far_none : (ws : List ℕ) {heading : Heading} {start : Cursor} {none : Order} → HeadingReadsAs ws (Ok (heading, start))
    → none ≡ no_order → SoFar ws heading.count (replicate most_orders none) start 0
unfolding orders_checks
so_far_none ws {heading} reads e =
    let passes = heading_passes ws (given_clear (heading_checks ws) (gives []) reads.0) in
    let counted : heading.count ≡ (heading_of ws).count = ap (λ (h : Heading). h.count) reads.1 in
    record {
      counted = counted;
      fits = rw counted passes.0.count;
      words = rw counted (passes.1 ∙ place_in (word_at ws 4).value (length ws) (heading_of ws).count);
      few = omega arith;
      place = omega (arith, reads.2);
      places = rw e (painted_none (order_at ws) (replicate most_orders no_order));
      clear = nothing_left;
    }

-- a fault of a later order leaves the table stopped
stops_later : (ws : List ℕ) (m n : ℕ) {a b : ℕ} → m ≤ n → Stops (orders_checks ws m) a b → Stops (orders_checks ws n) a b
unfolding orders_checks
stops_later ws m zero less p = let e : m ≡ 0 = omega arith in rw e at p
stops_later ws m (suc n) {a} {b} less p = go (λ l. stops_later ws m n l p) (dec_le m n)
  where
    go : (m ≤ n → Stops (orders_checks ws n) a b) → Dec (m ≤ n) → Stops (orders_checks ws n ++ checks_in ws (order_place (layout_of ws) n) n) a b
    go earlier (yes l) = stops_first _ (earlier l)
    go earlier (no l) = let e : m ≡ suc n = omega (arith, l) in rw e at p

module _ (ws : List ℕ) {count : ℕ} {orders : List Order} {cursor : Cursor} {i : ℕ} (so_far : SoFar ws count orders cursor i) where
  at_order : cursor.at ≡ order_place (layout_of ws) i
  at_order = so_far.place ∙ sym (place_in (word_at ws 4).value (length ws) i)

  pub so_far_more : {o : Order} {next : Cursor} → i < count → OrderReadsAs ws cursor.at (Ok (o, next))
      → SoFar ws count (set orders i o) next (i + 1)
  unfolding orders_checks order_at
  so_far_more {o} more order =
      let made : o ≡ order_at ws i = rw at_order at order.1 in
      let checked : Clear (checks_in ws (order_place (layout_of ws) i) i) =
      given_clear (checks_in ws (order_place (layout_of ws) i) i) (gives []) (rw at_order at (order.0 i)) in
      let f = so_far.fits in
      record {
        counted = so_far.counted;
        fits = so_far.fits;
        words = so_far.words;
        few = omega arith;
        place = omega (arith, order.2, so_far.place);
        places = painted_more so_far.places no_order (omega (arith, length-replicate most_orders no_order)) made;
        clear = rw (add-one i) (clear_append so_far.clear checked);
      }

  pub faulty_reading : (f : OrderFault) → verdict (heading_checks ws) ≡ gives [] → i < count → OrderReadsAs ws cursor.at (Err f)
      → check_sheet ws ≡ refused (OrderRefusal f i)
  unfolding orders_checks sheet_checks
  faulty_reading f heading more reads =
      let fault = refused_stops (checks_in ws (order_place (layout_of ws) i) i) [] (rw at_order at (reads i)) in
      let stopped : Stops (orders_checks ws (suc i)) (fault_number f) i = stops_after so_far.clear fault in
      let n = so_far.counted in
      refused_sheet ws (OrderRefusal f i) (stops_after (given_clear (heading_checks ws) (gives []) heading) (stops_later ws (suc i) (heading_of ws).count (omega arith) stopped))

  pub accepted_reading : {heading : Heading} {start : Cursor} → HeadingReadsAs ws (Ok (heading, start)) → count ≤ i
      → AcceptedAs ws (record { heading = heading; orders = orders })
  unfolding check_sheet sheet_checks places_read orders_of
  accepted_reading reads done =
      let last : i ≡ (heading_of ws).count = omega (arith, so_far.few, so_far.counted) in
      let e : AcceptedSheet ws = (clear_append (given_clear (heading_checks ws) (gives []) reads.0) (rw last at so_far.clear)).hands_on (gives []) in
      record { passes = e; headed = reads.1; placed = rw last at (painted_first no_order most_orders so_far.places) }
