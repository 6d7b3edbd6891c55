-- The last step of a round: by the auction the fills, whose total is that of the buys. And the round of n orders, of what is handed back in
-- 120 places.
use mathlib.Core.List.{List, map}
use mathlib.Core.Path.{◌≡◌, sym, ap, ◌∙◌}
use Prim.Native.Nat.{ℕ, ◌-◌, ◌<◌}
use native.Mathlib.Omega.{arith}
use lib.ListN.{length, get_or, replicate, get_or-map, get_or-append}
use Rattle.filling.proofs.Fills.{total-given, fills_given}
use Rattle.filling.specs.Fills.{filled_with}
use Rattle.filling.specs.declared.Filled.{Filled}
use Rattle.claims.proofs.Totals.{fills_length, total-is}
use Rattle.lines.specs.Pieces.{pieces_of}
use Rattle.rules.proofs.Lists.{listed-is}
use Rattle.rules.specs.AuctionPrice.{Auction, auctioned, auction}
use Rattle.rules.specs.Fills.{largest_total, purchase_price}
use Rattle.rules.specs.Opening.{Round as RulesRound, settled, round_of}
use Rattle.rules.specs.Sheet.{most_orders}
use Rattle.rules.specs.declared.Auctioned.{Auctioned}
use Rattle.rules.specs.declared.Heading.{Heading}
use Rattle.rules.specs.declared.Pieces.{Pieces}
use Rattle.rules.specs.declared.Side.TheVariants.{Buy}
use Rattle.rules.specs.declared.Standing.{Standing}
use Rattle.round.specs.HandedBack.{handed_back, with_places, of_orders}
use Rattle.round.specs.declared.Round.{Round}

-- ---- The last step

pub settled_is : (h : Heading) (os : List Standing) (a : Auctioned) {f : Filled} → f ≡ filled_with h (auctioned a) os
    → {p : ℕ} → p ≡ purchase_price h (auctioned a) f.total.0
    → record { situation = a.situation; price = a.price.0; purchase = p; total = f.total.0; fills = map (λ (m : Pieces). m.0) f.fills }
    ≡ with_places (settled h os (auctioned a))
unfolding settled
settled_is h os a {f} given purchase =
    let sum : f.total.0 ≡ largest_total h (auctioned a) os = total-given h (auctioned a) os given in
    let fills = fills_given h (auctioned a) os given in
    rw (purchase, fills, sum, ← total-is h (auctioned a) os Buy, ← fills_length h (auctioned a) os)

-- by the auction of the rules it is the rules' round
pub round_is : (h : Heading) (last : ℕ) (os : List Standing) {a : Auction} {r : RulesRound} → a ≡ auction h last os
    → r ≡ with_places (settled h os a) → r ≡ with_places (round_of h last os)
round_is h last os priced rest = rest ∙ ap (λ (x : Auction). with_places (settled h os x)) priced

-- ---- The round of n orders

-- what is handed back has the fills of the n orders in its first places
pub of_orders_lem : (n : ℕ) (R : RulesRound) (r : Round) → length R.fills ≡ n → handed_back r ≡ with_places R → of_orders n r ≡ R
of_orders_lem n R r each e =
    rw (
      ap (λ (x : RulesRound). x.situation) e,
      ap (λ (x : RulesRound). x.price) e,
      ap (λ (x : RulesRound). x.purchase) e,
      ap (λ (x : RulesRound). x.total) e,
      listed-is (pieces_of r.fills) n 0 R.fills each fill_is,
    )
  where
    fill_is : (k : ℕ) → k < n → pieces_of r.fills k ≡ get_or R.fills k 0
    fill_is k l =
        sym (get_or-map (λ (m : Pieces). m.0) r.fills k (record { 0 = 0 }))
        ∙ ap (λ (x : RulesRound). get_or x.fills k 0) e
        ∙ get_or-append R.fills (replicate (most_orders - length R.fills) 0) 0 k (omega arith)
