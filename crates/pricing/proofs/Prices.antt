-- The steps from the four limits to the auction price: in situation 0 whether the band has a maximiser, in situations 1 to 4 which ends
-- there are in the band.
use mathlib.Core.Bool.{Bool, true, false, cond}
use mathlib.Core.List.{List}
use mathlib.Core.Option.{none, some}
use mathlib.Core.Path.{◌≡◌, refl, sym, ap, ◌∙◌}
use Prim.Native.Nat.{ℕ, suc, ◌≤◌, ◌<◌, max, min}
use native.Mathlib.Omega.{arith}
use lib.Dec.{leb}
use borrow.Author.Tests.{le-leb, lt-leb}
use Rattle.std.specs.Bool.{then_some}
use Rattle.std.specs.Prelude.{Option, Some, None}
use Rattle.std.proofs.lemmas.Option.{same_Some, none-some}
use Rattle.claims.proofs.Crossing.{auction_crossed, auction_uncrossed}
use Rattle.claims.specs.Crossing.{piece_limit, greatest, span_end, end_for, end_within, balanced, crossed_at}
use Rattle.rules.specs.AuctionPrice.{Auction, uncrossed, auction}
use Rattle.rules.specs.Grid.{last_price}
use Rattle.rules.specs.Sheet.{D, H, I}
use Rattle.rules.specs.declared.Heading.{Heading}
use Rattle.rules.specs.declared.Side.{Side}
use Rattle.rules.specs.declared.Side.TheVariants.{Buy, Sell}
use Rattle.rules.specs.declared.Standing.{Standing}

-- ---- Situation 0

module _ (h : Heading) (a b bid ask last : ℕ) {low high : ℕ} (from : low ≡ max (D h) a) (to : high ≡ min (H h) b) where
  pub band_has_lem : low ≤ high → balanced low high bid ask last ≡ crossed_at h a b bid ask last
  unfolding crossed_at
  band_has_lem l = rw (← from, ← to, le-leb low high l)

  pub band_has_none : high < low → balanced a b bid ask last ≡ crossed_at h a b bid ask last
  unfolding crossed_at
  band_has_none l = rw (← from, ← to, lt-leb low high l)

-- ---- Situations 1–4

-- the better end of a span, where it is not empty, as the code has it
module _ (s : Side) (low high : ℕ) {end : Option ℕ} (told : end ≡ then_some (leb low high) (end_for s low high)) where
  end_there : {x : ℕ} → end ≡ Some x → span_end s low high ≡ some x
  unfolding span_end
  end_there {x} e = go (leb low high) (sym told ∙ e)
    where
      go : (t : Bool) → then_some t (end_for s low high) ≡ Some x → cond t (some (end_for s low high)) none ≡ some x
      go true f = ap some (same_Some (end_for s low high) x f)
      go false f = absurd (none-some x f)

  end_missing : end ≡ None → span_end s low high ≡ none
  unfolding span_end
  end_missing e = go (leb low high) (sym told ∙ e)
    where
      go : (t : Bool) → then_some t (end_for s low high) ≡ None → cond t (some (end_for s low high)) none ≡ none
      go true f = absurd (none-some (end_for s low high) (sym f))
      go false f = refl

-- the best price of each side in the band
pub record Ends (h : Heading) (bid ask : ℕ) (demanded supplied : Option ℕ) : Type 0 where
  pub buys : demanded ≡ then_some (leb (max (D h) 1) (min (H h) bid)) (min (H h) bid)
  pub sells : supplied ≡ then_some (leb (max (D h) ask) (min (H h) last_price)) (max (D h) ask)

module _ {h : Heading} {bid ask : ℕ} {demanded supplied : Option ℕ} (e : Ends h bid ask demanded supplied) (last : ℕ) where
  -- the auction in situations 1–4
  abbrev apart : Auction
  apart = uncrossed h last (end_within h Buy bid) (end_within h Sell ask)

  some_demand : {x : ℕ} → demanded ≡ Some x → end_within h Buy bid ≡ some x
  some_demand = end_there Buy (max (D h) 1) (min (H h) bid) e.buys

  no_demand : demanded ≡ None → end_within h Buy bid ≡ none
  no_demand = end_missing Buy (max (D h) 1) (min (H h) bid) e.buys

  some_supply : {x : ℕ} → supplied ≡ Some x → end_within h Sell ask ≡ some x
  some_supply = end_there Sell (max (D h) ask) (min (H h) last_price) e.sells

  no_supply : supplied ≡ None → end_within h Sell ask ≡ none
  no_supply = end_missing Sell (max (D h) ask) (min (H h) last_price) e.sells

  pub only_supply : demanded ≡ None → {y : ℕ} → supplied ≡ Some y → record { situation = 1; price = min y (I h) } ≡ apart
  unfolding uncrossed
  only_supply d s = rw (no_demand d, some_supply s)

  pub only_demand : {x : ℕ} → demanded ≡ Some x → supplied ≡ None → record { situation = 2; price = max x (I h) } ≡ apart
  unfolding uncrossed
  only_demand d s = rw (some_demand d, no_supply s)

  pub both_there : {x y : ℕ} → demanded ≡ Some x → supplied ≡ Some y → record { situation = 3; price = max x (min y last) } ≡ apart
  unfolding uncrossed
  both_there d s = rw (some_demand d, some_supply s)

  pub neither_there : demanded ≡ None → supplied ≡ None → record { situation = 4; price = last } ≡ apart
  unfolding uncrossed
  neither_there d s = rw (no_demand d, no_supply s)

-- ---- The auction

module _ (h : Heading) (last : ℕ) (os : List Standing) {v bid ask : ℕ} (volume : v ≡ greatest h os) (buys : bid ≡ piece_limit os Buy (suc v))
    (sells : ask ≡ piece_limit os Sell (suc v)) where
  pub nothing_carried : v ≡ 0 → {r : Auction} → r ≡ uncrossed h last (end_within h Buy bid) (end_within h Sell ask) → r ≡ auction h last os
  nothing_carried nothing e = e ∙ rw (buys, sells, nothing) (sym (auction_uncrossed h os last (sym volume ∙ nothing)))

  pub some_carried : (v ≡ 0 → ⊥) → {a b p : ℕ} → a ≡ piece_limit os Sell v → b ≡ piece_limit os Buy v
      → p ≡ crossed_at h a b bid ask last → record { situation = 0; price = p } ≡ auction h last os
  some_carried there {a} {b} {p} from to e =
      let limits : p ≡ crossed_at h (piece_limit os Sell (greatest h os)) (piece_limit os Buy (greatest h os)) (piece_limit os Buy (suc (greatest h os))) (piece_limit os Sell (suc (greatest h os))) last =
      rw (from, to, buys, sells, volume) at e in
      rw limits (sym (auction_crossed h os last (omega (arith, volume, there))))
