-- What a round gives fits the words of a result: its prices are of the grid, its fills are no more than what remained, and its total no
-- more than 120 orders can have. The words of a result are no more than 120 orders need.
use mathlib.Core.Bool.{Bool, true, false, cond}
use mathlib.Core.List.{List}
use mathlib.Core.Option.{none, some}
use mathlib.Core.Path.{◌≡◌, refl}
use Prim.Native.Nat.{ℕ, zero, suc, ◌+◌, ◌*◌, ◌≤◌, ◌<◌, max, min, zero-le}
use native.Mathlib.Nat.{le_trans, mul-le-mul}
use native.Mathlib.Omega.{arith}
use lib.Dec.{leb}
use lib.ListN.{length}
use Rattle.claims.specs.Crossing.{end_within, piece_limit, greatest, span_end}
use Rattle.claims.specs.Fits.{FitsWords}
use Rattle.claims.proofs.Crossing.{crossed_potential, buys_limit, maximisers_run, auction_crossed, auction_uncrossed}
use Rattle.claims.proofs.Fills.{fills_lawful, fills_largest}
use Rattle.claims.specs.Orders.{left}
use Rattle.rules.proofs.Grid.{moved_within}
use Rattle.rules.proofs.Sums.{sum_each}
use Rattle.rules.proofs.Tests.{by_test}
use Rattle.rules.specs.AuctionPrice.{Auction, uncrossed, auction}
use Rattle.rules.specs.Fills.{fill_of, total, fills_of, purchase_price}
use Rattle.rules.specs.Grid.{last_price}
use Rattle.rules.specs.Limits.{same_side, numbered}
use Rattle.rules.specs.Opening.{settled, round_of, opening_space}
use Rattle.rules.specs.Sheet.{most_orders, D, H, I}
use Rattle.rules.specs.declared.Heading.{Heading}
use Rattle.rules.specs.declared.Side.{Side}
use Rattle.rules.specs.declared.Side.TheVariants.{Buy, Sell}
use Rattle.rules.specs.declared.Standing.{Standing}

-- ---- The auction

pub record OfGrid (a : Auction) : Type 0 where
  pub situation : a.situation ≤ 4
  pub price : a.price ≤ last_price

module _ (h : Heading) (last : ℕ) (indicative : I h ≤ last_price) (before : last ≤ last_price) where
  uncrossed_on : (x y : ℕ) → x ≤ last_price → OfGrid (uncrossed h last (end_within h Buy x) (end_within h Sell y))
  unfolding uncrossed span_end
  uncrossed_on x y on = go (leb (max (D h) 1) (min (H h) x)) (leb (max (D h) y) (min (H h) last_price))
    where
      go : (t u : Bool)
          → OfGrid (uncrossed h last (cond t (some (min (H h) x)) none) (cond u (some (max (D h) y)) none))
      go true true = record { situation = omega arith; price = omega arith }
      go true false = record { situation = omega arith; price = omega arith }
      go false true = record { situation = omega arith; price = omega arith }
      go false false = record { situation = omega arith; price = omega arith }

  pub auction_of_grid : (os : List Standing) → OfGrid (auction h last os)
  auction_of_grid os = go (greatest h os) refl
    where
      go : (v : ℕ) → greatest h os ≡ v → OfGrid (auction h last os)
      go zero e = rw (auction_uncrossed h os last e) (uncrossed_on (piece_limit os Buy 1) (piece_limit os Sell 1) (buys_limit os 1))
      go (suc v) e =
          rw (auction_crossed h os last (omega arith))
          (record {
            situation = zero-le;
            price = le_trans (crossed_potential h _ _ _ _ last (maximisers_run h os)).to (buys_limit os (greatest h os));
          })

-- ---- The words

-- the words that an opening needs are most for 120 orders
pub most_space : (n : ℕ) → n ≤ most_orders → opening_space n ≤ 15005
most_space n few =
    let rounds : n + 1 ≤ 121 = omega arith in
    let words : n + 4 ≤ 124 = omega arith in
    let product : (n + 1) * (n + 4) ≤ 121 * 124 = mul-le-mul rounds words in
    omega arith

-- ---- The round

-- a purchase price is in the band, or 0
pub purchase_le : (h : Heading) (a : Auction) (sum : ℕ) → D h ≤ H h → purchase_price h a sum ≤ H h
purchase_le h a sum band = by_test (λ p. p ≤ H h) (leb 1 sum) (λ e. (moved_within (D h) (H h) a.price band).1) (λ e. zero-le)

-- the orders of a round: at most 120, each with at most 1,000,000 pieces left
pub record FewPieces (os : List Standing) : Type 0 where
  pub few : length os ≤ 120
  pub pieces : (k : ℕ) → k < length os → left os k ≤ 1000000

module _ (h : Heading) (last : ℕ) (os : List Standing) (band : D h ≤ H h) (upper : H h ≤ last_price) (indicative : I h ≤ last_price)
    (before : last ≤ last_price) (small : FewPieces os) where
  fill_le : (a : Auction) (k : ℕ) → k < length os → fill_of (fills_of h a os) k ≤ 1000000
  fill_le a k l = le_trans ((fills_lawful h a os band).F1-within k l) (small.pieces k l)

  total_le : (a : Auction) (s : Side) → total s os (fills_of h a os) ≤ 120000000
  unfolding total
  total_le a s =
      let each = sum_each (λ k. cond (same_side s (numbered os k).side) (fill_of (fills_of h a os) k) 0) 1000000 (length os)
      (λ j l. by_test (λ x. x ≤ 1000000) (same_side s (numbered os j).side) (λ e. fill_le a j l) (λ e. zero-le)) in
      omega (arith, each, small.few)

  pub round_fits : FitsWords (round_of h last os)
  unfolding settled
  round_fits =
      let a : Auction = auction h last os in
      let on : OfGrid a = auction_of_grid h last indicative before os in
      let most : total Buy os (fills_of h a os) ≤ 120000000 = total_le a Buy in
      record {
        situation = omega (arith, on.situation);
        price = omega (arith, on.price);
        purchase = omega (arith, purchase_le h a (total Buy os (fills_of h a os)) band);
        total = omega (arith, most);
        fills = λ k l.
            let own : k < length os = omega (arith, (fills_largest h a os band).each) in
            omega (arith, fill_le a k own);
      }
