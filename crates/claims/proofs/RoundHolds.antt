-- What demand 3 claims of one round holds of the round by the rules, and of no other. An order that gets pieces is eligible, so its
-- limit in force allows the purchase price, and the entered limit allows what the limit in force does. Situation and price are those
-- of the auction; of two lists of fills with the largest total each would have more than the other if they differed.
use mathlib.Core.Bool.{true, not, cond}
use mathlib.Core.List.{List, List-discrete}
use mathlib.Core.Option.{Option, none, some}
use mathlib.Core.Path.{◌≡◌, refl, sym, ap, ◌∙◌}
use Prim.Native.Nat.{ℕ, ◌+◌, ◌-◌, max, min, ◌≤◌, ◌<◌, zero-le}
use native.Mathlib.Decide.{ℕ_discrete}
use native.Mathlib.Omega.{arith}
use lib.Dec.{eqb}
use lib.ListN.{length}
use borrow.Author.Tests.{leb-true, le-leb}
use Rattle.claims.proofs.PriceHolds.{best_price}
use Rattle.claims.proofs.Fills.{fills_lawful, fills_largest}
use Rattle.claims.specs.Orders.{side}
use Rattle.claims.proofs.Priority.{side_same}
use Rattle.claims.proofs.Rounds.{length-standing, standing-at, count-orders}
use Rattle.claims.proofs.Sums.{sum_more}
use Rattle.rules.proofs.Accepted.{SoundSheet, sound_band}
use Rattle.rules.proofs.Grid.{both}
use Rattle.rules.specs.AuctionPrice.{Auction, auction}
use Rattle.claims.specs.Demand3.{RoundHolds}
use Rattle.rules.specs.Result.{count, auction_in}
use Rattle.rules.specs.Fills.{eligible, fill_of, total, fills_of, purchase_price}
use Rattle.claims.specs.Fills.{Lawful, Largest}
use Rattle.rules.specs.Grid.{Scan}
use Rattle.rules.specs.Limits.{same_side, filed, numbered, allows, entered_limit, best_rival, stepped, limit_in_force, standing}
use Rattle.rules.specs.Opening.{Start, Round, settled, round_from}
use Rattle.rules.specs.Sheet.{D, H, heading_of, orders_of}
use Rattle.rules.specs.declared.Heading.{Heading}
use Rattle.rules.specs.declared.Order.{Order}
use Rattle.rules.specs.declared.Side.{Side}
use Rattle.rules.specs.declared.Side.TheVariants.{Buy, Sell}
use Rattle.rules.specs.declared.Standing.{Standing}
use Rattle.rules.specs.declared.Terms.{Terms}
use Rattle.rules.specs.declared.Terms.TheVariants.{WithoutLimit, Limited, Stepper}

-- ---- The limits of an order that gets pieces

module _ (h : Heading) (a : Auction) (os : List Standing) (fills : List ℕ) (lawful : Lawful h a os fills) where
  -- its pieces are among its side's total
  fill_in_total : (k : ℕ) → k < length os → fill_of fills k ≤ total (side os k) os fills
  unfolding total
  fill_in_total k l =
      let more = sum_more (λ j. 0) (λ j. cond (same_side (side os k) (side os j)) (fill_of fills j) 0) (length os) k (fill_of fills k)
      (λ j m. zero-le) l (rw (side_same (side os k)) (omega arith)) in
      omega arith

  -- what is bought is sold
  traded : (s : Side) → 0 < total s os fills → 0 < total Buy os fills
  traded Buy l = l
  traded Sell l = rw lawful.F4 l

  -- it is eligible, so its limit in force allows the purchase price
  allowed : (k : ℕ) → k < length os → 0 < fill_of fills k
      → allows (numbered os k).side (numbered os k).limit.0 (purchase_price h a (total Buy os fills)) ≡ true
  unfolding eligible
  allowed k l gets =
      rw (le-leb 1 (total Buy os fills) (traded (side os k) (omega (arith, fill_in_total k l))))
      (both {a = eqb a.situation 0} (lawful.F1-eligible k l gets)).1

-- what a stepped limit allows, the limit it steps from allows
stepped_allows : (h : Heading) (s : Side) (limit : ℕ) (rival : Option ℕ) (p : ℕ) → allows s (stepped h s limit rival) p ≡ true
    → allows s limit p ≡ true
unfolding stepped
stepped_allows h Buy limit (some rival) p e = le-leb p limit (omega (arith, leb-true p (min limit (max (D h) (rival + h.step.0))) e))
stepped_allows h Buy limit none p e = le-leb p limit (omega (arith, leb-true p (min limit (D h)) e))
stepped_allows h Sell limit (some rival) p e = le-leb limit p (omega (arith, leb-true (max limit (min (H h) (rival - h.step.0))) p e))
stepped_allows h Sell limit none p e = le-leb limit p (omega (arith, leb-true (max limit (H h)) p e))

-- what the limit in force allows, the entered limit allows
force_allows : (h : Heading) (s : Side) (t : Terms) (rivals : Scan ℕ) (p : ℕ) → allows s (limit_in_force h s t rivals) p ≡ true
    → allows s (entered_limit h s t) p ≡ true
unfolding limit_in_force
force_allows h s (WithoutLimit a) rivals p e = e
force_allows h s (Limited l a) rivals p e = e
force_allows h s (Stepper l q) rivals p e =
    stepped_allows h s (entered_limit h s (Stepper l q)) (best_rival rivals s q.0) p e

-- ---- The fills

-- two lists that are both the largest are the same
largest_one : (h : Heading) (a : Auction) (os : List Standing) (fills others : List ℕ) → Largest h a os fills → Largest h a os others
    → fills ≡ others
largest_one h a os fills others f g = go (List-discrete ℕ_discrete fills others)
  where
    go : Dec (fills ≡ others) → fills ≡ others
    go (yes q) = q
    go (no d) =
        absurd (omega (arith, f.largest others g.each g.lawful (λ q. d (sym q)), g.largest fills f.each f.lawful d))

-- ---- The round

module _ (ws : List ℕ) (sound : SoundSheet ws) (s : Start) where
  abbrev h : Heading
  h = heading_of ws

  abbrev os : List Standing
  os = standing h (orders_of ws) s.remaining

  abbrev a : Auction
  a = auction h s.last os

  abbrev fills : List ℕ
  fills = fills_of h a os

  abbrev purchase : ℕ
  purchase = purchase_price h a (total Buy os fills)

  abbrev order : ℕ → Order
  order k = filed (orders_of ws) k

  band : D h ≤ H h
  band = sound_band sound

  within_force : (k : ℕ) → k < count ws → 0 < fill_of fills k
      → allows (numbered os k).side (numbered os k).limit.0 purchase ≡ true
  within_force k l =
      allowed h a os fills (fills_lawful h a os band) k (omega (arith, length-standing h (orders_of ws) s.remaining, count-orders ws))

  within_entered : (k : ℕ) → k < count ws → 0 < fill_of fills k
      → allows (order k).side (entered_limit h (order k).side (order k).terms) purchase ≡ true
  within_entered k l gets =
      force_allows h (order k).side (order k).terms _ purchase
      (rw (standing-at h (orders_of ws) s.remaining k (omega (arith, count-orders ws))) at (within_force k l gets))

  -- the claim holds of the round by the rules,
  pub round_holds : RoundHolds ws s.last os (round_from ws s) (auction_in (round_from ws s))
  unfolding round_from settled
  round_holds = record {
    auctioned = refl;
    best = best_price h s.last os;
    filled = fills_largest h a os band;
    bought = refl;
    sold = (fills_lawful h a os band).F4;
    purchased = refl;
    in_force = λ k l gets. ap not (within_force k l gets);
    entered = λ k l gets. ap not (within_entered k l gets);
  }

  -- and of no other
  pub round_only : (x : Round) → RoundHolds ws s.last os x (auction_in x) → x ≡ round_from ws s
  unfolding round_from settled
  round_only x holds =
      let same : x.fills ≡ fills =
      largest_one h a os x.fills fills (rw (← holds.auctioned) at holds.filled) (fills_largest h a os band) in
      (λ i. record {
        situation = x.situation;
        price = x.price;
        purchase = (holds.purchased ∙ ap (purchase_price h (auction_in x)) holds.bought) i;
        total = holds.bought i;
        fills = x.fills;
      })
      ∙ (λ i. with_fills (sym holds.auctioned i) (same i))
    where
      -- the round with an auction and a list of fills
      with_fills : Auction → List ℕ → Round
      with_fills b given = record {
        situation = b.situation;
        price = b.price;
        purchase = purchase_price h b (total Buy os given);
        total = total Buy os given;
        fills = given;
      }
