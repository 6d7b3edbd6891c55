-- What the first of 120 places of pieces say of the orders: the quantities before the first round, and the remainders that a round leaves.
use mathlib.Core.Bool.{Bool, true, false, cond}
use mathlib.Core.List.{List, [], ◌∷◌, map, map-map}
use mathlib.Core.Path.{◌≡◌, refl, sym, ap, ◌∙◌}
use Prim.Native.Nat.{ℕ, zero, suc, ◌-◌, ◌≤◌, ◌<◌}
use native.Mathlib.Omega.{arith}
use lib.Dec.{ltb}
use lib.ListN.{length, get_or, take, length-map, length-take, get_or-map}
use Rattle.book.proofs.Remaining.{remaining_at}
use Rattle.book.specs.Filed.{filed_in, remaining_in}
use Rattle.lines.specs.Pieces.{pieces_of}
use Rattle.round.specs.HandedBack.{of_orders}
use Rattle.round.specs.declared.Round as declared
use Rattle.rules.proofs.Lists.{length-listed, get_d_listed, listed-is}
use Rattle.rules.specs.Fills.{fill_of}
use Rattle.rules.specs.Limits.{no_order, filed}
use Rattle.rules.specs.Lists.{listed}
use Rattle.rules.specs.Opening.{Start as RulesStart, after}
use Rattle.rules.specs.Sheet.{most_orders}
use Rattle.rules.specs.declared.Heading.{Heading}
use Rattle.rules.specs.declared.Order.{Order}
use Rattle.rules.specs.declared.Pieces.{Pieces}
use Rattle.run.specs.Starts.{less_fills, start_after}
use Rattle.run.specs.declared.start.Start.{Start}

-- ---- The quantities

-- the list of f's values over a list
listed-map : {A B : Type 0} (f : A → B) (d : A) (xs : List A) → listed (λ k. f (get_or xs k d)) (length xs) ≡ map f xs
listed-map f d xs =
    listed-is _ (length xs) (f d) (map f xs) (length-map xs f) (λ k l. sym (get_or-map f xs k d))

pub quantities_are : (orders : List Order) → length orders ≡ most_orders
    → listed (λ k. (filed orders k).quantity) most_orders ≡ map (λ (o : Order). o.quantity) orders
quantities_are orders long = rw (← long) (listed-map (λ (o : Order). o.quantity) no_order orders)

take_map : {A B : Type 0} (f : A → B) (n : ℕ) (xs : List A) → take n (map f xs) ≡ map f (take n xs)
take_map f zero xs = refl
take_map f (suc n) [] = refl
take_map f (suc n) (x ∷ xs) = ap (λ (ys : List _). f x ∷ ys) (take_map f n xs)

-- what remains at first is the quantities
pub remaining_first : (h : Heading) (orders : List Order)
    → remaining_in h (map (λ (o : Order). o.quantity) orders) ≡ map (λ (o : Order). o.quantity.0) (filed_in h orders)
unfolding remaining_in filed_in
remaining_first h orders =
    ap (map (λ (m : Pieces). m.0)) (take_map (λ (o : Order). o.quantity) h.count orders)
    ∙ map-map (λ (m : Pieces). m.0) (λ (o : Order). o.quantity) (take h.count orders)

-- ---- The remainders that a round leaves

-- what is left of order k, at its place
abbrev left_of : List Pieces → List Pieces → ℕ → Pieces
left_of remaining fills k = record { 0 = pieces_of remaining k - pieces_of fills k }

less_long : (h : Heading) (remaining fills : List Pieces) → h.count ≤ most_orders
    → length (remaining_in h (less_fills remaining fills)) ≡ h.count
unfolding remaining_in less_fills
less_long h remaining fills few =
    length-map (take h.count (listed (left_of remaining fills) most_orders)) (λ (m : Pieces). m.0)
    ∙ length-take h.count (listed (left_of remaining fills) most_orders)
    ∙ rw (length-listed (left_of remaining fills) most_orders) (omega arith)

less_at : (h : Heading) (remaining fills : List Pieces) → h.count ≤ most_orders → (k : ℕ) → k < h.count
    → get_or (remaining_in h remaining) k 0 - fill_of (listed (pieces_of fills) h.count) k
    ≡ get_or (remaining_in h (less_fills remaining fills)) k 0
unfolding less_fills
less_at h remaining fills few k l =
    let placed : pieces_of (listed (left_of remaining fills) most_orders) k ≡ pieces_of remaining k - pieces_of fills k =
    ap (λ (m : Pieces). m.0) (get_d_listed (left_of remaining fills) most_orders k (record { 0 = 0 }) (omega arith)) in
    rw (remaining_at h remaining k l, get_d_listed (pieces_of fills) h.count k 0 l)
    (sym (remaining_at h (listed (left_of remaining fills) most_orders) k l ∙ placed))

-- the rules' start that the engine's stands for
unfoldable pub rules_start : Heading → Start → RulesStart
rules_start h s = record { last = s.last.0; remaining = remaining_in h s.remaining }

-- and what a round leaves of it
pub start_after_lem : (h : Heading) (s : Start) (r : declared.Round) → h.count ≤ most_orders → length (rules_start h s).remaining ≡ h.count
    → rules_start h (start_after s r) ≡ after (rules_start h s) (of_orders h.count r)
unfolding rules_start start_after after
start_after_lem h s r few long =
    rw (
      long,
      listed-is _ h.count 0 (remaining_in h (less_fills s.remaining r.fills))
          (less_long h s.remaining r.fills few) (less_at h s.remaining r.fills few),
    )
    (go (ltb 0 r.purchase.0))
  where
    go : (t : Bool)
        → ◌≡◌ {A = RulesStart} (record { last = (cond t r.purchase s.last).0; remaining = remaining_in h (less_fills s.remaining r.fills) })
        (record { last = cond t r.purchase.0 s.last.0; remaining = remaining_in h (less_fills s.remaining r.fills) })
    go true = refl
    go false = refl
