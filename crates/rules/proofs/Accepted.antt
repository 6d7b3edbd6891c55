-- What is known of every accepted sheet: its prices are on the grid, its step is 1 to 1,000, its quantities 1 to 1,000,000, its length fits.
-- In an accepted sheet no row of the table arises; each row that does not arise is one of the facts below. Of a call on it only the
-- call's own rows are left; a refused sheet refuses every call.
use mathlib.Core.Bool.{Bool, true, false, ◌&&◌, ◌||◌}
use mathlib.Core.List.{List, [], ◌∷◌, ◌++◌}
use mathlib.Core.Path.{◌≡◌, sym, ap, ◌∙◌}
use Prim.Native.Nat.{ℕ, zero, suc, ◌≤◌, ◌<◌}
use native.Mathlib.Decide.{dec_le}
use native.Mathlib.Omega.{arith}
use lib.Dec.{leb, ltb, eqb}
use lib.ListN.{length, get_or}
use borrow.Author.Tests.{leb-true, ltb-true, lt-ltb, le-ltb, eqb-true, not-false}
use Rattle.rules.specs.Answers.{gives, refuses, Check, row, downwards}
use Rattle.rules.specs.Calls.{on_sheet, words_given}
use Rattle.rules.specs.Grid.{on_grid}
use Rattle.rules.specs.Sheet.{order_place, layout_of, step_word, heading_from, heading_of, prices_on_grid, band_encloses, step_allowed, length_fits, most_orders, terms_allowed, quantity_allowed, ignored_allowed, terms_of, order_from, order_at, orders_of, heading_checks, order_checks, orders_checks, sheet_checks, check_sheet, AcceptedSheet}
use Rattle.rules.specs.declared.Heading.{Heading}
use Rattle.rules.specs.declared.Order.{Order}
use Rattle.rules.specs.declared.Terms.{Terms}
use Rattle.rules.specs.declared.Terms.TheVariants.{WithoutLimit, Limited, Stepper}
use Rattle.rules.specs.declared.Word.{Word}
use Rattle.rules.proofs.Downwards.{Clear, Stops, downwards_append, given_clear, refused_stops, clear_row, clear_rest, clear_left, clear_right}
use Rattle.rules.proofs.Grid.{OnGrid, both, on_grid_lem}
use Rattle.rules.proofs.Lists.{get_d_listed}
use Rattle.rules.proofs.Tests.{by_test}

pub record SoundHeading (h : Heading) : Type 0 where
  pub lower : OnGrid h.lower.0
  pub upper : OnGrid h.upper.0
  pub last : OnGrid h.last.0
  pub indicative : OnGrid h.indicative.0
  pub above_lower : h.lower.0 < h.indicative.0
  pub below_upper : h.indicative.0 < h.upper.0
  pub step : (1 ≤ h.step.0) × (h.step.0 ≤ 1000)
  pub count : h.count ≤ most_orders

-- a limit, where there is one, is on the grid, and no more than 1,000,000 pieces are ignored
abbrev pub SoundTerms : Terms → Type 0
SoundTerms (WithoutLimit a) = Unit {0}
SoundTerms (Limited l a) = OnGrid l.0
SoundTerms (Stepper l g) = OnGrid l.0 × (g.0 ≤ 1000000)

pub record SoundOrder (o : Order) : Type 0 where
  pub terms : SoundTerms o.terms
  pub some : 1 ≤ o.quantity.0
  pub most : o.quantity.0 ≤ 1000000

pub record SoundSheet (ws : List ℕ) : Type 0 where
  pub heading : SoundHeading (heading_of ws)
  pub words : length ws ≡ order_place (layout_of ws) (heading_of ws).count
  pub orders : (k : ℕ) (d : Order) → k < (heading_of ws).count → SoundOrder (get_or (orders_of ws) k d)

-- the band runs from D to H
pub sound_band : {ws : List ℕ} → SoundSheet ws → (heading_of ws).lower.0 ≤ (heading_of ws).upper.0
sound_band sound = omega (arith, sound.heading.above_lower, sound.heading.below_upper)

step_within : (f : Word) → step_allowed f ≡ true → (1 ≤ f.value) × (f.value ≤ 1000)
unfolding step_allowed
step_within f allowed =
    let two = both allowed in
    (leb-true _ _ (both {a = eqb f.kind 0} two.0).1, leb-true _ _ two.1)

sound_heading : (h : Heading) → prices_on_grid h ≡ true → band_encloses h ≡ true → (1 ≤ h.step.0) × (h.step.0 ≤ 1000)
    → leb h.count most_orders ≡ true → SoundHeading h
unfolding prices_on_grid band_encloses
sound_heading h grid encloses step few =
    let three = both grid in
    let two = both three.0 in
    let one = both two.0 in
    let sides = both encloses in
    record {
      lower = on_grid_lem _ one.0;
      upper = on_grid_lem _ one.1;
      last = on_grid_lem _ two.1;
      indicative = on_grid_lem _ three.1;
      above_lower = ltb-true _ _ sides.0;
      below_upper = ltb-true _ _ sides.1;
      step = step;
      count = leb-true _ _ few;
    }

-- rows 3, 15, 17 and 4 of a heading that passes, and its length
pub heading_passes : (ws : List ℕ) → Clear (heading_checks ws)
    → SoundHeading (heading_of ws) × (length ws ≡ order_place (layout_of ws) (heading_of ws).count)
unfolding heading_checks length_fits heading_from heading_of
heading_passes ws p =
    let after-1 = clear_rest _ _ p in
    let after-2 = clear_rest _ _ after-1 in
    let after-3 = clear_rest _ _ after-2 in
    let after-15 = clear_rest _ _ after-3 in
    let after-17 = clear_rest _ _ after-15 in
    let prices = not-false _ (clear_row _ _ after-2) in
    let encloses = not-false _ (clear_row _ _ after-3) in
    let step = step_within (step_word ws) (not-false _ (clear_row _ _ after-15)) in
    let fits = both (not-false _ (clear_row _ _ after-17)) in
    (sound_heading (heading_of ws) prices encloses step fits.0, eqb-true _ _ fits.1)

sound_terms : (disposition limit ignored : ℕ) → terms_allowed disposition limit ≡ true → ignored_allowed disposition ignored ≡ true
    → SoundTerms (terms_of disposition limit ignored)
unfolding terms_allowed ignored_allowed terms_of
sound_terms disposition limit ignored allowed few =
    let told = (both {a = leb disposition 2} allowed).1 in
    let most = leb-true _ _ (both {a = leb ignored 1000000} few).0 in
    by_test SoundTerms (eqb disposition 2) (λ e. (on_grid_lem limit (barred (eqb limit 0) (rw e at told)), most))
    (λ e. by_test SoundTerms (eqb limit 0) (λ f. tt) (λ f. on_grid_lem limit (rw f at told)))
  where
    barred : (none : Bool) → (none && false || on_grid limit) ≡ true → on_grid limit ≡ true
    barred true on = on
    barred false on = on

-- rows 6 to 8 of an order that passes
sound_order : (k : ℕ) (a b c : Word) → Clear (order_checks k a b c) → SoundOrder (order_from a b c)
unfolding order_checks order_from quantity_allowed
sound_order k a b c p =
    let after-5 = clear_rest _ _ p in
    let after-6 = clear_rest _ _ after-5 in
    let after-7 = clear_rest _ _ after-6 in
    let quantity = both (not-false _ (clear_row _ _ after-6)) in
    record {
      terms = sound_terms _ _ _ (not-false _ (clear_row _ _ after-5)) (not-false _ (clear_row _ _ after-7));
      some = leb-true _ _ quantity.0;
      most = leb-true _ _ quantity.1;
    }

-- each of the first n orders passes its own rows
sound_orders : (ws : List ℕ) (n : ℕ) → Clear (orders_checks ws n) → (k : ℕ) → k < n → SoundOrder (order_at ws k)
unfolding orders_checks order_at
sound_orders ws zero p k h = absurd (omega arith)
sound_orders ws (suc n) p k h = go (sound_orders ws n (clear_left _ _ p) k) (dec_le (suc k) n)
  where
    go : (k < n → SoundOrder (order_at ws k)) → Dec (suc k ≤ n) → SoundOrder (order_at ws k)
    go earlier (yes l) = earlier l
    go earlier (no l) =
        let e : n ≡ k = omega (arith, l) in
        rw e at (sound_order n _ _ _ (clear_right (orders_checks ws n) _ p))

pub accepted_sound : (ws : List ℕ) → AcceptedSheet ws → SoundSheet ws
unfolding check_sheet sheet_checks orders_of
accepted_sound ws e =
    let p = given_clear (heading_checks ws ++ orders_checks ws (heading_of ws).count) (gives []) e in
    let h = heading_passes ws (clear_left _ _ p) in
    let rest = clear_right (heading_checks ws) (orders_checks ws (heading_of ws).count) p in
    record {
      heading = h.0;
      words = h.1;
      orders = λ k d l. rw (get_d_listed (order_at ws) (heading_of ws).count k d l) (sound_orders ws (heading_of ws).count rest k l);
    }

-- ---- Calls on a sheet

-- of an accepted sheet only the call's own rows are left
pub own_rows : (ws : List ℕ) → AcceptedSheet ws → (own : List Check) (vs : List ℕ) → on_sheet ws own vs ≡ downwards own (gives vs)
unfolding check_sheet
own_rows ws accepted own vs =
    let clear : Clear (sheet_checks ws) = given_clear (sheet_checks ws) (gives []) accepted in
    downwards_append (sheet_checks ws) own (gives vs) ∙ clear.hands_on _

-- a refused sheet refuses the call, whatever its rows
pub sheet_refuses : (ws : List ℕ) {n k : ℕ} → check_sheet ws ≡ refuses n k → (own : List Check) (vs : List ℕ)
    → on_sheet ws own vs ≡ refuses n k
unfolding check_sheet
sheet_refuses ws {n} {k} refused own vs =
    let stops : Stops (sheet_checks ws) n k = refused_stops (sheet_checks ws) [] refused in
    downwards_append (sheet_checks ws) own (gives vs) ∙ stops.refuses_all _

-- where a call on a sheet gives something, it is what it would give where nothing arises
pub given_words : (ws : List ℕ) (own : List Check) (words : List ℕ) {vs : List ℕ} → on_sheet ws own words ≡ gives vs → vs ≡ words
given_words ws own words e =
    let clear : Clear (sheet_checks ws ++ own) = given_clear (sheet_checks ws ++ own) (gives words) e in
    ap words_given (sym e ∙ clear.hands_on (gives words))

-- a call that is lent a space has one row: whether the space has the words that it needs
module _ (ws : List ℕ) (accepted : AcceptedSheet ws) (vs : List ℕ) {needed size : ℕ} where
  pub enough_words : needed ≤ size → on_sheet ws (row 10 (ltb size needed) ∷ []) vs ≡ gives vs
  unfolding downwards
  enough_words enough = own_rows ws accepted (row 10 (ltb size needed) ∷ []) vs ∙ rw (le-ltb size needed enough)

  pub too_few_words : size < needed → on_sheet ws (row 10 (ltb size needed) ∷ []) vs ≡ refuses 10 0
  unfolding downwards
  too_few_words few = own_rows ws accepted (row 10 (ltb size needed) ∷ []) vs ∙ rw (lt-ltb size needed few)
