-- The first round of a sheet. The places of an accepted sheet begin with its orders, so what the engine works out from heading and places
-- is the rules' answer; a refused sheet stops every call with its own refusal.
use mathlib.Core.Bool.{Bool, true, false, not, cond, false≢true}
use mathlib.Core.List.{List, [], ◌∷◌, map}
use mathlib.Core.Option.{Option, none, some}
use mathlib.Core.Path.{◌≡◌, sym, ap, ◌∙◌}
use Prim.Native.Nat.{ℕ, ◌≤◌, ◌<◌, min}
use native.Mathlib.Omega.{arith}
use lib.ListN.{get_or-map, get_or, length}
use lib.Dec.{ltb}
use borrow.Author.Tests.{le-ltb, lt-ltb, ltb-true, ltb-false, not-true, not-false}
use Rattle.book.specs.Book.{Ranged}
use Rattle.book.specs.Filed.{filed_in, remaining_in}
use Rattle.claims.proofs.Places.{price_placed, placed_on}
use Rattle.claims.specs.Places.{place_of}
use Rattle.claims.proofs.Priority.{side_same}
use Rattle.claims.proofs.Rounds.{count-orders, standing-at, length-standing}
use Rattle.lines.proofs.Ordered.{held_curve}
use Rattle.lines.specs.Lines.{LineOf, held_at}
use Rattle.rules.proofs.Accepted.{SoundHeading, SoundTerms, SoundOrder, own_rows, sheet_refuses}
use Rattle.rules.proofs.Grid.{OnGrid, on_grid_lem}
use Rattle.rules.proofs.Lists.{length-listed}
use Rattle.rules.specs.Answers.{gives, refuses, Check, row, downwards, refused}
use Rattle.rules.specs.AuctionPrice.{curve, level}
use Rattle.rules.specs.Calls.{stepper_limit, curves_at, on_sheet, is_stepper, stepper, curves_of, first_standing, answer_by, answer}
use Rattle.rules.specs.Grid.{nth, Scan, over_grid, on_grid}
use Rattle.rules.specs.Limits.{same_side, stands, limit_in_force, entered_limit, rival_pieces, stepped, no_order, filed, numbered, standing}
use Rattle.rules.specs.Opening.{first_start}
use Rattle.rules.specs.Sheet.{heading_of, orders_of, check_sheet}
use Rattle.rules.specs.declared.Heading.{Heading}
use Rattle.rules.specs.declared.Order.{Order}
use Rattle.rules.specs.declared.Pieces.{Pieces}
use Rattle.rules.specs.declared.Refusal.{Refusal}
use Rattle.rules.specs.declared.Sheet.{Sheet}
use Rattle.rules.specs.declared.Side.{Side}
use Rattle.rules.specs.declared.Side.TheVariants.{Buy, Sell}
use Rattle.rules.specs.declared.Terms.{Terms}
use Rattle.rules.specs.declared.Terms.TheVariants.{WithoutLimit, Limited, Stepper}
use Rattle.run.proofs.Accepted.{orders_are, own_order, count-is, sound, few_of_sheet}
use Rattle.run.proofs.Places.{remaining_first}
use Rattle.run.proofs.Running.{round_ranged, running_none}
use Rattle.run.specs.Starts.{start_of}
use Rattle.sheet.specs.Reading.{AcceptedAs, OfSheet}

-- ---- A Stepper's limit

-- from a limit of the grid a Stepper steps within the grid
stepped_on : (h : Heading) (s : Side) → SoundHeading h → (limit : ℕ) → OnGrid limit → (rival : Option ℕ) → OnGrid (stepped h s limit rival)
unfolding stepped
stepped_on h Buy sound limit on (some r) = (omega (arith, sound.lower), omega arith)
stepped_on h Buy sound limit on none = (omega (arith, sound.lower), omega arith)
stepped_on h Sell sound limit on (some r) = (omega arith, omega (arith, sound.upper))
stepped_on h Sell sound limit on none = (omega arith, omega (arith, sound.upper))

-- ---- An accepted sheet

module _ {ws : List ℕ} {s : Sheet} (a : AcceptedAs ws s) where
  pub count-first : length (first_standing ws) ≡ (heading_of ws).count
  unfolding first_standing orders_of
  count-first = length-standing (heading_of ws) (orders_of ws) _ ∙ length-listed _ (heading_of ws).count

  -- the quantities are in their ranges
  pub first_ranged : {quantities : List Pieces} → quantities ≡ map (λ (o : Order). o.quantity) s.orders → Ranged s.heading (filed_in s.heading s.orders) quantities
  unfolding start_of
  first_ranged e = rw e (round_ranged a (running_none a []))

  -- with them the orders stand as in the first round
  pub first_line : {quantities : List Pieces} → quantities ≡ map (λ (o : Order). o.quantity) s.orders → {side : Side} {line : List ℕ}
      → LineOf side (standing s.heading (filed_in s.heading s.orders) (remaining_in s.heading quantities)) line → LineOf side (first_standing ws) line
  unfolding first_standing first_start
  first_line e made = rw (e, remaining_first s.heading s.orders, orders_are a, a.headed) at made

  module _ (k : ℕ) where
    limit_answer : answer (stepper_limit ws k)
        ≡ cond (not (is_stepper ws k)) (refuses 9 0) (gives ((numbered (first_standing ws) k).limit.0 ∷ []))
    unfolding answer answer_by downwards
    limit_answer = own_rows ws a.passes (row 9 (not (is_stepper ws k)) ∷ []) _

    pub no_such_order : s.heading.count ≤ k → refuses 9 0 ≡ answer (stepper_limit ws k)
    no_such_order past = rw (limit_answer, le-ltb k (heading_of ws).count (omega (arith, count-is a)))

    module _ (l : k < s.heading.count) where
      -- whether the order is a Stepper is told by its terms
      own_terms : is_stepper ws k ≡ stepper (filed s.orders k).terms
      own_terms = rw (lt-ltb k (heading_of ws).count (omega (arith, count-is a)), own_order a k l)

      pub no_stepper : stepper (filed s.orders k).terms ≡ false → refuses 9 0 ≡ answer (stepper_limit ws k)
      no_stepper other = rw (limit_answer, own_terms, other)

      -- its order at its limit in force
      own_stands : numbered (first_standing ws) k
          ≡ stands (filed s.orders k)
          (limit_in_force (heading_of ws) (filed s.orders k).side (filed s.orders k).terms
          (over_grid (rival_pieces (heading_of ws) (orders_of ws) (first_start ws).remaining k)))
          (get_or (first_start ws).remaining k 0)
      unfolding first_standing
      own_stands =
          rw (← own_order a k l)
          (standing-at (heading_of ws) (orders_of ws) (first_start ws).remaining k (omega (arith, count-is a, count-orders ws)))

      own_sound : SoundOrder (filed s.orders k)
      own_sound = rw (← own_order a k l) ((sound a).orders k no_order (omega (arith, count-is a)))

      own : same_side (filed s.orders k).side (numbered (first_standing ws) k).side ≡ true
      own = rw own_stands (side_same (filed s.orders k).side)

      some_left : 0 < (numbered (first_standing ws) k).remaining.0
      unfolding first_start
      some_left =
          rw (own_stands, get_or-map (λ (o : Order). o.quantity.0) (orders_of ws) k no_order, own_order a k l) own_sound.some

      -- a Stepper's limit in force is a price of the grid
      limit_on : stepper (filed s.orders k).terms ≡ true → OnGrid (numbered (first_standing ws) k).limit.0
      unfolding limit_in_force entered_limit
      limit_on steps = rw own_stands (go (filed s.orders k).terms steps own_sound.terms _)
        where
          go : (t : Terms) → stepper t ≡ true → SoundTerms t → (rivals : Scan ℕ)
              → OnGrid (limit_in_force (heading_of ws) (filed s.orders k).side t rivals)
          go (WithoutLimit w) e so rivals = absurd (false≢true e)
          go (Limited limit w) e so rivals = absurd (false≢true e)
          go (Stepper limit q) e so rivals = stepped_on (heading_of ws) (filed s.orders k).side (sound a).heading limit.0 so.0 _

      pub stepper_stands : stepper (filed s.orders k).terms ≡ true → {place p : ℕ}
          → (k < length (first_standing ws) → same_side (filed s.orders k).side (numbered (first_standing ws) k).side ≡ true
          → 0 < (numbered (first_standing ws) k).remaining.0 → place ≡ place_of (filed s.orders k).side (numbered (first_standing ws) k).limit.0)
          → p ≡ nth (filed s.orders k).side place → gives (p ∷ []) ≡ answer (stepper_limit ws k)
      stepper_stands steps found is =
          rw (limit_answer, own_terms, steps)
          (ap (λ (x : ℕ). gives (x ∷ []))
          (is ∙ ap (nth (filed s.orders k).side) (found (omega (arith, count-first, count-is a)) own some_left)
          ∙ price_placed (filed s.orders k).side _ (limit_on steps)))

  module _ (p : ℕ) where
    curves_answer_lem : answer (curves_at ws p)
        ≡ cond (not (on_grid p)) (refuses 9 0) (gives (curves_of (level (heading_of ws) (first_standing ws) p)))
    unfolding answer answer_by downwards
    curves_answer_lem = own_rows ws a.passes (row 9 (not (on_grid p)) ∷ []) _

    pub off_grid : on_grid p ≡ false → refuses 9 0 ≡ answer (curves_at ws p)
    off_grid off = rw (curves_answer_lem, off)

    pub curves_stand : on_grid p ≡ true → {bids asks : List ℕ} {d s v : ℕ} → LineOf Buy (first_standing ws) bids → d ≡ held_at bids (place_of Buy p)
        → LineOf Sell (first_standing ws) asks → s ≡ held_at asks (place_of Sell p) → v ≡ min d s
        → gives (d ∷ s ∷ v ∷ []) ≡ answer (curves_at ws p)
    unfolding level
    curves_stand e buys demand sells supply volume =
        rw (curves_answer_lem, e, volume, demand ∙ held Buy buys, supply ∙ held Sell sells)
      where
        held : (t : Side) {line : List ℕ} → LineOf t (first_standing ws) line → held_at line (place_of t p) ≡ curve t (first_standing ws) p
        held t q =
            held_curve q (place_of t p) (placed_on t p (on_grid_lem p e)) ∙ ap (curve t (first_standing ws)) (price_placed t p (on_grid_lem p e))

-- ---- A refused sheet

module _ (ws : List ℕ) (refusal : Refusal) (fault : check_sheet ws ≡ refused refusal) where
  -- it refuses every call, whatever its rows
  pub refused_call : (rows : List Check) (vs : List ℕ) → refused refusal ≡ on_sheet ws rows vs
  refused_call rows vs = sym (sheet_refuses ws fault rows vs)

  pub limit_refused : (k : ℕ) → refused refusal ≡ answer (stepper_limit ws k)
  unfolding answer answer_by
  limit_refused k = refused_call _ _

  pub curves_refused : (p : ℕ) → refused refusal ≡ answer (curves_at ws p)
  unfolding answer answer_by
  curves_refused p = refused_call _ _

-- ---- The number of an order, tested against their count

pub has_no_order : {found : Bool} {k n : ℕ} → found ≡ ltb k n → not found ≡ true → n ≤ k
has_no_order e past = ltb-false _ _ (sym e ∙ not-true _ past)

pub has_its_order : {found : Bool} {k n : ℕ} → found ≡ ltb k n → not found ≡ false → k < n
has_its_order e within = ltb-true _ _ (sym e ∙ not-false _ within)

-- an order of the sheet has a place
pub order_placed : {s : Sheet} → OfSheet s → (k : ℕ) {found : Bool} → found ≡ ltb k s.heading.count → not found ≡ false → k < 120
order_placed o k e within = let there : k < _ = has_its_order e within in omega (arith, there, few_of_sheet o)
