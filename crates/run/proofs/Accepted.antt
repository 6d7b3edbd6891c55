-- The places of an accepted sheet begin with its orders, so what the engine works out from heading and places is of the sheet.
use mathlib.Core.List.{List}
use mathlib.Core.Path.{◌≡◌, sym, ap, ◌∙◌}
use Prim.Native.Nat.{ℕ, ◌-◌, ◌≤◌, ◌<◌}
use native.Mathlib.Omega.{arith}
use lib.ListN.{length, replicate}
use lib.Seq.{take_at, get_or-take}
use Rattle.book.specs.Book.{stepping, Ranged}
use Rattle.book.specs.Filed.{filed_in}
use Rattle.lines.specs.Keys.{room}
use Rattle.lines.specs.Pieces.{most_pieces, pieces_of}
use Rattle.rules.proofs.Accepted.{SoundTerms, SoundOrder, SoundSheet, sound_band, accepted_sound}
use Rattle.rules.proofs.Lists.{length-listed}
use Rattle.rules.specs.Limits.{no_order, filed}
use Rattle.rules.specs.Sheet.{most_orders, heading_of, order_at, orders_of}
use Rattle.rules.specs.declared.Heading.{Heading}
use Rattle.rules.specs.declared.Order.{Order}
use Rattle.rules.specs.declared.Pieces.{Pieces}
use Rattle.rules.specs.declared.Terms.{Terms}
use Rattle.rules.specs.declared.Terms.TheVariants.{WithoutLimit, Limited, Stepper}
use Rattle.rules.specs.declared.Sheet.{Sheet}
use Rattle.sheet.specs.Reading.{places_read, AcceptedAs, OfSheet}

module _ {ws : List ℕ} {s : Sheet} (a : AcceptedAs ws s) where
  pub orders_are : filed_in s.heading s.orders ≡ orders_of ws
  unfolding filed_in places_read orders_of
  orders_are =
      rw (a.headed, a.placed)
      (take_at (orders_of ws) (replicate (most_orders - (heading_of ws).count) no_order) (heading_of ws).count
      (length-listed _ (heading_of ws).count))

  -- and so each of its orders is in its place
  pub own_order : (k : ℕ) → k < s.heading.count → filed (orders_of ws) k ≡ filed s.orders k
  unfolding filed_in
  own_order k own = ap (λ (os : List Order). filed os k) (sym orders_are) ∙ get_or-take s.heading.count s.orders k no_order own

  pub count-is : s.heading.count ≡ (heading_of ws).count
  count-is = ap (λ (h : Heading). h.count) a.headed

  pub sound : SoundSheet ws
  sound = accepted_sound ws a.passes

  -- its order of number k
  pub order_sound : (k : ℕ) → k < length (filed_in s.heading s.orders) → SoundOrder (filed (filed_in s.heading s.orders) k)
  unfolding orders_of
  order_sound k l =
      rw orders_are
      (sound.orders k no_order (omega (arith, ap length orders_are, length-listed (order_at ws) (heading_of ws).count)))

  -- the band and the ignored quantities are in their ranges, and so is what remains of each order
  pub sheet_ranged : (remaining : List Pieces) → ((k : ℕ) → k < length (filed_in s.heading s.orders) → pieces_of remaining k ≤ most_pieces)
      → Ranged s.heading (filed_in s.heading s.orders) remaining
  unfolding stepping
  sheet_ranged remaining small = record {
    bounded =
        rw a.headed
        (record { lower = sound.heading.lower.0; run = sound_band sound; upper = sound.heading.upper.1 });
    small = small;
    ignored = λ k l. few_ignored (filed (filed_in s.heading s.orders) k).terms (order_sound k l).terms;
  }
    where
      few_ignored : (t : Terms) → SoundTerms t → stepping t < room
      few_ignored (WithoutLimit w) so = omega arith
      few_ignored (Limited l w) so = omega arith
      few_ignored (Stepper l q) so = omega (arith, so.1)

pub few_of_sheet : {s : Sheet} → OfSheet s → s.heading.count ≤ 120
few_of_sheet o = rw o.accepted.headed (sound o.accepted).heading.count
