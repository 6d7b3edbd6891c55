-- How far two lines meet. The order that holds piece v has the side's limit of that piece. While the orders that hold the next piece meet,
-- all their common pieces are carried; where they do not, no more is.
use mathlib.Core.Bool.{Bool, true, false, cond, ◌&&◌}
use mathlib.Core.List.{List}
use mathlib.Core.Logic.{◌⊎◌, inl, inr}
use mathlib.Core.Path.{◌≡◌, refl, sym, ap, ◌∙◌}
use Prim.Native.Nat.{ℕ, zero, suc, ◌+◌, ◌-◌, ◌≤◌, ◌<◌, min, zero-le}
use native.Mathlib.Omega.{arith}
use lib.Dec.{leb, ltb}
use lib.ListN.{length, get_or-eq_default}
use borrow.Author.Tests.{leb-true, leb-false, le-leb, lt-leb, ltb-true, ltb-false, lt-ltb, le-ltb}
use Rattle.std.specs.Bool.{then_some}
use Rattle.std.specs.Prelude.{Option, MatchOption}
use Rattle.claims.proofs.Crossing.{crosses}
use Rattle.claims.specs.Crossing.{piece_limit, greatest}
use Rattle.claims.specs.Places.{piece_place}
use Rattle.claims.proofs.Sums.{last_or_before}
use Rattle.lines.proofs.Ordered.{line_placed, line_stands, line_rises}
use Rattle.lines.proofs.Standing.{held_by, held_by_none}
use Rattle.lines.proofs.Summing.{sum_none, GoneBy, gone_by}
use Rattle.lines.specs.Keys.{place_in, amount_in}
use Rattle.lines.specs.Lines.{LineOf, place_at, up_to}
use Rattle.rules.specs.AuctionPrice.{curve}
use Rattle.rules.specs.Grid.{last_price, nth}
use Rattle.rules.specs.Lists.{sum_to}
use Rattle.rules.specs.Sheet.{most_orders}
use Rattle.rules.specs.declared.Heading.{Heading}
use Rattle.rules.specs.declared.Side.{Side}
use Rattle.rules.specs.declared.Side.TheVariants.{Buy, Sell}
use Rattle.rules.specs.declared.Standing.{Standing}
use Rattle.sorting.specs.Sorted.{item}
use Rattle.pricing.specs.Meeting.{meet_at, MeetAs, HoldsPiece, MetAs}

-- ---- The order that holds a piece

-- behind the last order the place is 0
place_none : (line : List ℕ) (i : ℕ) → length line ≤ i → 0 ≡ place_at line i
place_none line i past = sym (ap place_in (get_or-eq_default line 0 past))

module _ {s : Side} {os : List Standing} {line : List ℕ} (q : LineOf s os line) where
  -- an order's place is one of the grid, or 0
  placed : (i : ℕ) → place_at line i ≤ last_price
  placed i = go (ltb i (length line)) refl
    where
      go : (t : Bool) → ltb i (length line) ≡ t → place_at line i ≤ last_price
      go true e = line_placed q i (ltb-true i (length line) e)
      go false e = omega (arith, place_none line i (ltb-false i (length line) e))

  -- it has the side's limit of that piece
  limit_held : {i v : ℕ} → HoldsPiece line i v → piece_limit os s v ≡ nth s (place_at line i)
  unfolding piece_limit
  limit_held {i} {v} at = ap (nth s) (go (last_or_before (omega (arith, at.within))))
    where
      go : (i ≡ length line) ⊎ (i < length line) → piece_place (λ k. curve s os (nth s k)) v ≡ place_at line i
      go (inl all) = held_by_none (line_stands q) v (rw (← all) at.past) ∙ place_none line i (omega arith)
      go (inr few) = held_by (line_stands q) i v few at.past (at.most few)

  -- the price at its place is that limit
  pub limit_told : {i v p : ℕ} → HoldsPiece line i v → p ≡ nth s (place_at line i) → p ≡ piece_limit os s v
  limit_told at e = e ∙ sym (limit_held at)

  -- where order i holds the piece after v, and `before` pieces stand before it, piece v is held by it or the order before it
  pub holds_last : {i v before k : ℕ} → HoldsPiece line i (suc v) → (v ≡ 0 → ⊥) → before ≡ up_to line i → k ≡ cond (ltb before v) i (i - 1)
      → HoldsPiece line k v
  holds_last {i} {v} {before} {k} at some sum e = go (ltb before v) refl
    where
      back : (i : ℕ) → HoldsPiece line i (suc v) → v ≤ up_to line i → k ≡ i - 1 → HoldsPiece line k v
      back zero at full last = absurd (omega (arith, some, (line_stands q).none))
      back (suc n) at full last =
          let same : k ≡ n = omega arith in
          rw same
          (record {
            within = omega (arith, at.within);
            past = omega (arith, line_rises q n at.within, at.past);
            most = λ few. full;
          })

      go : (t : Bool) → ltb before v ≡ t → HoldsPiece line k v
      go true f =
          let same : k ≡ i = e ∙ rw f in
          rw same
          (record {
            within = at.within;
            past = omega (arith, ltb-true before v f, sum);
            most = λ few. omega (arith, at.most few);
          })
      go false f = back i at (omega (arith, ltb-false before v f, sum)) (e ∙ rw f)

-- ---- The pieces of the orders that are passed

-- 1 where a test holds
abbrev pub one_if : Bool → ℕ
one_if t = cond t 1 0

-- order i, with which its side has c pieces, is passed where the other side has as many, d
record Step (line : List ℕ) (i before c d reached after : ℕ) : Type 0 where
  upto : c ≡ before + amount_in (item line i)
  order : reached ≡ i + one_if (leb c d)
  sum : after ≡ cond (leb c d) c before

module _ {line : List ℕ} {i before : ℕ} (so : GoneBy line i before) where
  module _ (few : i < length line) {c d reached after : ℕ} (p : Step line i before c d reached after) where
    -- c counts the pieces up to order i
    next : c ≡ up_to line (suc i)
    unfolding sum_to
    next = omega (arith, p.upto, so.is)

    on : leb c d ≡ true → reached ≡ suc i
    on e = let one : reached ≡ i + 1 = p.order ∙ rw e in omega arith

    stays : leb c d ≡ false → reached ≡ i
    stays e = let none : reached ≡ i + 0 = p.order ∙ rw e in omega arith

    passed_more : GoneBy line reached after
    passed_more = go (leb c d) refl
      where
        go : (t : Bool) → leb c d ≡ t → GoneBy line reached after
        go true e = rw (on e) (gone_by line few (p.sum ∙ rw e next))
        go false e = rw (stays e) (gone_by line so.within (p.sum ∙ rw e so.is))

    module _ {v w : ℕ} (at : HoldsPiece line i (suc v)) (least : w ≡ min c d) where
      -- of the w pieces that both sides then have, order i holds the last, and the order that is then reached the next one
      holds_common : v < w → HoldsPiece line i w
      holds_common more = record { within = at.within; past = omega (arith, at.past); most = λ f. omega (arith, next) }

      holds_more : {s : Side} {os : List Standing} → LineOf s os line → v < w → HoldsPiece line reached (suc w)
      holds_more q more = go (leb c d) refl
        where
          go : (t : Bool) → leb c d ≡ t → HoldsPiece line reached (suc w)
          go true e =
              let all : w ≡ c = omega (arith, leb-true c d e) in
              rw (on e)
              (record {
                within = few;
                past = omega (arith, next);
                most = λ f. omega (arith, next, line_rises q (suc i) f);
              })
          go false e =
              rw (stays e)
              (record {
                within = at.within;
                past = omega (arith, at.past);
                most = λ f. omega (arith, next, leb-false c d e);
              })

-- ---- Two orders that meet

module _ (bids : List ℕ) (i : ℕ) (asks : List ℕ) (j : ℕ) where
  pub no_bid : length bids ≤ i → meet_at bids i asks j ≡ false
  unfolding meet_at
  no_bid past = rw (le-ltb i (length bids) past)

  pub no_ask : length asks ≤ j → meet_at bids i asks j ≡ false
  unfolding meet_at
  no_ask past = go (ltb i (length bids))
    where
      go : (t : Bool) → (t && (ltb j (length asks) && ltb last_price (place_at bids i + place_at asks j))) ≡ false
      go true = rw (le-ltb j (length asks) past)
      go false = refl

  overlap : i < length bids → j < length asks → meet_at bids i asks j ≡ ltb last_price (place_at bids i + place_at asks j)
  unfolding meet_at
  overlap buy sell = rw (lt-ltb i (length bids) buy, lt-ltb j (length asks) sell)

  -- the entries of two orders that are there, if their places overlap
  pub meet_told : i < length bids → j < length asks → length bids ≤ most_orders → length asks ≤ most_orders
      → {x y : ℕ} → {both : ℕ × ℕ} → both.0 ≡ item bids i → both.1 ≡ item asks j → x ≡ place_in both.0 → y ≡ place_in both.1
      → {met : Option (ℕ × ℕ)} → met ≡ then_some (ltb last_price (x + y)) both
      → MatchOption met (meet_at bids i asks j ≡ false) (MeetAs bids i asks j)
  meet_told buy sell few_bids few_asks {x} {y} {both} bid ask e f {met} g = rw g (go (ltb last_price (x + y)) refl)
    where
      sum : x + y ≡ place_at bids i + place_at asks j
      sum = rw (e, f, bid, ask)

      go : (t : Bool) → ltb last_price (x + y) ≡ t → MatchOption (then_some t both) (meet_at bids i asks j ≡ false) (MeetAs bids i asks j)
      go true h = record {
        buy = buy;
        sell = sell;
        cross = omega (arith, ltb-true last_price (x + y) h);
        bid = bid;
        ask = ask;
        few_bids = omega arith;
        few_asks = omega arith;
      }
      go false h = overlap buy sell ∙ rw (← sum) h

  apart : {os : List Standing} → LineOf Buy os bids → LineOf Sell os asks → meet_at bids i asks j ≡ false
      → place_at bids i + place_at asks j ≤ last_price
  unfolding meet_at
  apart b s e = go (ltb i (length bids)) refl (ltb j (length asks)) refl
    where
      go : (t : Bool) → ltb i (length bids) ≡ t → (u : Bool) → ltb j (length asks) ≡ u → place_at bids i + place_at asks j ≤ last_price
      go true f true g = ltb-false last_price (place_at bids i + place_at asks j) (rw (f, g) at e)
      go true f false g = omega (arith, placed b i, place_none asks j (ltb-false j (length asks) g))
      go false f u g = omega (arith, placed s j, place_none bids i (ltb-false i (length bids) f))

-- so far v pieces meet, and orders i and j hold the next one
pub record Meeting (h : Heading) (os : List Standing) (bids : List ℕ) (i : ℕ) (asks : List ℕ) (j v : ℕ) : Type 0 where
  pub carried : v ≤ greatest h os
  pub buy : HoldsPiece bids i (suc v)
  pub sell : HoldsPiece asks j (suc v)

module _ (h : Heading) (os : List Standing) {bids asks : List ℕ} (b : LineOf Buy os bids) (s : LineOf Sell os asks) where
  meeting_none : Meeting h os bids 0 asks 0 0
  meeting_none = record { carried = zero-le; buy = first b; sell = first s }
    where
      first : {s : Side} {line : List ℕ} → LineOf s os line → HoldsPiece line 0 1
      first q = record {
        within = zero-le;
        past = omega (arith, (line_stands q).none);
        most = λ few. omega (arith, line_rises q 0 few);
      }

  module _ {i j v : ℕ} (buy : HoldsPiece bids i v) (sell : HoldsPiece asks j v) where
    -- v pieces are carried somewhere just where the two orders that hold piece v meet
    crossing : leb v (greatest h os) ≡ leb (last_price + 1 - place_at asks j) (place_at bids i)
    crossing = rw (← limit_held b buy, ← limit_held s sell) (crosses h os v)

    some_carry : last_price < place_at bids i + place_at asks j → v ≤ greatest h os
    some_carry cross = leb-true v (greatest h os) (crossing ∙ le-leb (last_price + 1 - place_at asks j) (place_at bids i) (omega arith))

    none_carries : place_at bids i + place_at asks j ≤ last_price → greatest h os < v
    none_carries far =
        leb-false v (greatest h os) (crossing ∙ lt-leb (last_price + 1 - place_at asks j) (place_at bids i) (omega arith))

-- ---- The walk over both lines

-- of two numbers one is at most the other, so an order is passed
pub one_passed : (c d i j : ℕ) {x y : ℕ} → x ≡ i + one_if (leb c d) → y ≡ j + one_if (leb d c) → i + j < x + y
one_passed c d i j {x} {y} e f = go (leb c d) (leb d c) refl refl e f
  where
    go : (t u : Bool) → leb c d ≡ t → leb d c ≡ u → x ≡ i + one_if t → y ≡ j + one_if u → i + j < x + y
    go true true g k a b = omega arith
    go true false g k a b = omega arith
    go false true g k a b = omega arith
    go false false g k a b = absurd (omega (arith, leb-false c d g, leb-false d c k))

-- the walk has come to orders i and j, in every round whose lines these are
pub record Walked (bids : List ℕ) (i bought : ℕ) (asks : List ℕ) (j sold v : ℕ) : Type 0 where
  pub buy : GoneBy bids i bought
  pub sell : GoneBy asks j sold
  pub met : (h : Heading) (os : List Standing) → LineOf Buy os bids → LineOf Sell os asks → Meeting h os bids i asks j v

pub walked_none : (bids asks : List ℕ) → Walked bids 0 0 asks 0 0 0
walked_none bids asks = record { buy = sum_none _ _; sell = sum_none _ _; met = λ h os b s. meeting_none h os b s }

module _ {bids : List ℕ} {i bought : ℕ} {asks : List ℕ} {j sold v : ℕ} (k : Walked bids i bought asks j sold v) where
  pub walked_more : {both : ℕ × ℕ} → MeetAs bids i asks j both → {m n w x y b s : ℕ} → m ≡ amount_in both.0 → n ≡ amount_in both.1
      → w ≡ min (bought + m) (sold + n)
      → x ≡ i + one_if (leb (bought + m) (sold + n)) → b ≡ cond (leb (bought + m) (sold + n)) (bought + m) bought
      → y ≡ j + one_if (leb (sold + n) (bought + m)) → s ≡ cond (leb (sold + n) (bought + m)) (sold + n) sold
      → Walked bids x b asks y s w
  walked_more f {m} {n} {w} {x} {y} {b} {s} bid ask least one-buy after-buy one-sell after-sell = record {
    buy = passed_more k.buy f.buy p;
    sell = passed_more k.sell f.sell q;
    met = more;
  }
    where
      p : Step bids i bought (bought + m) (sold + n) x b
      p = record { upto = rw (bid, f.bid); order = one-buy; sum = after-buy }

      q : Step asks j sold (sold + n) (bought + m) y s
      q = record { upto = rw (ask, f.ask); order = one-sell; sum = after-sell }

      least_sell : w ≡ min (sold + n) (bought + m)
      least_sell = omega (arith, least)

      more : (h : Heading) (os : List Standing) → LineOf Buy os bids → LineOf Sell os asks → Meeting h os bids x asks y w
      more h os buys sells =
          let m = k.met h os buys sells in
          let past : v < w =
          omega (arith, least, next k.buy f.buy p, next k.sell f.sell q, m.buy.most f.buy, m.sell.most f.sell) in
          record {
            carried = some_carry h os buys sells (holds_common k.buy f.buy p m.buy least past)
                (holds_common k.sell f.sell q m.sell least_sell past) f.cross;
            buy = holds_more k.buy f.buy p m.buy least buys past;
            sell = holds_more k.sell f.sell q m.sell least_sell sells past;
          }

  pub walked_all : meet_at bids i asks j ≡ false → (h : Heading) (os : List Standing) → LineOf Buy os bids → LineOf Sell os asks
      → MetAs h os bids asks (record { volume = record { 0 = v }; buys = record { order = i; before = record { 0 = bought } }; sells = record { order = j; before = record { 0 = sold } } })
  walked_all e h os b s =
      let m = k.met h os b s in
      record {
        volume = omega (arith, m.carried, none_carries h os b s m.buy m.sell (apart bids i asks j b s e));
        buy = m.buy;
        bought = k.buy.is;
        sell = m.sell;
        sold = k.sell.is;
      }
