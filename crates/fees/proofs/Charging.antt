-- Fees have room in 64 bits: a small trade is worth at most 10 to the 13, the fee of a fill is at most the tariff's greatest, and an order
-- pays at most so much in each round. The words of each round stand within those of the result.
use mathlib.Core.Bool.{true}
use mathlib.Core.List.{List, ◌++◌}
use mathlib.Core.Path.{◌≡◌, refl, sym, ap, ◌∙◌}
use Prim.Native.Nat.{ℕ, suc, ◌+◌, ◌-◌, ◌*◌, ◌/◌, ◌≤◌, ◌<◌, max, min, zero-le}
use native.Mathlib.Nat.{le_trans, le_antisymm, zero-mul, le-div_iff_mul-le, div-lt_iff_lt-mul}
use native.Mathlib.Numerals.{add-one}
use native.Mathlib.Omega.{arith}
use lib.Dec.{eqb, ltb}
use lib.ListN.{length, get_or, drop, length-append, length-drop, get_or-append}
use Rattle.std.proofs.lemmas.List.{get_or-drop, drop-drop, drop_at}
use borrow.Author.Tests.{leb-true, ltb-true, ltb-false, ne_eqb}
use Rattle.rules.proofs.Grid.{both, moved_within}
use Rattle.rules.proofs.Sums.{sum_each}
use Rattle.rules.proofs.Tests.{by_test}
use Rattle.rules.specs.Fees.{tariff_stands, worth, rated, fill_fee, order_fee}
use Rattle.rules.specs.Grid.{moved_into}
use Rattle.rules.specs.Lists.{sum_to}
use Rattle.rules.specs.declared.Tariff.{Tariff}
use Rattle.rules.specs.declared.Trade.{Trade}
use Rattle.fees.specs.Trades.{trade_at, trade_in}

-- ---- A fill

-- the figures of a tariff that stands
pub record Figures (t : Tariff) : Type 0 where
  pub rate : t.rate ≤ 10000
  pub greatest : t.greatest ≤ 100000000
  pub ordered : t.least ≤ t.greatest

pub figures : (t : Tariff) → tariff_stands t ≡ true → Figures t
unfolding tariff_stands
figures t stands =
    let three = both stands in
    let two = both three.0 in
    let one = both two.0 in
    record { rate = leb-true _ _ one.0; greatest = leb-true _ _ two.1; ordered = leb-true _ _ three.1 }

-- held between two bounds is moved into them
clamped : (least greatest fee : ℕ) → least ≤ greatest → max least (min fee greatest) ≡ moved_into least greatest fee
unfolding moved_into
clamped least greatest fee ordered =
    by_test (λ paid. max least (min fee greatest) ≡ paid) (ltb fee least) (λ e. omega (arith, ltb-true fee least e))
    (λ e. by_test (λ paid. max least (min fee greatest) ≡ paid) (ltb greatest fee) (λ f. omega (arith, ltb-true greatest fee f))
    (λ f. omega (arith, ltb-false fee least e, ltb-false greatest fee f)))

module _ (t : Tariff) where
  -- the fee of a fill of at least one piece, step by step
  pub fee_of_fill : tariff_stands t ≡ true → (x : Trade) → (x.pieces.0 ≡ 0 → ⊥) → {hellers fee least greatest paid : ℕ}
      → hellers ≡ worth x → fee ≡ rated t.rate hellers → least ≡ t.least → greatest ≡ t.greatest
      → paid ≡ max least (min fee greatest) → paid ≡ fill_fee t x
  unfolding fill_fee
  fee_of_fill stands x some {hellers} {fee} worth-is rated-is least-is greatest-is paid-is =
      paid-is ∙ rw (ne_eqb x.pieces.0 0 some, ← worth-is, ← rated-is, least-is, greatest-is) (clamped t.least t.greatest fee (figures t stands).ordered)

  -- no fill costs more than the tariff can name
  fee_most : tariff_stands t ≡ true → (x : Trade) → fill_fee t x ≤ 100000000
  unfolding fill_fee
  fee_most stands x =
      let f = figures t stands in
      by_test (λ fee. fee ≤ 100000000) (eqb x.pieces.0 0) (λ e. zero-le)
      (λ e. le_trans (moved_within t.least t.greatest (rated t.rate (worth x)) f.ordered).1 f.greatest)

  -- ---- The rounds

  pub fee_none : (trade : ℕ → Trade) → 0 ≡ order_fee t trade 0
  unfolding order_fee sum_to
  fee_none trade = refl

  -- a round more
  pub fee_more : (trade : ℕ → Trade) (r : ℕ) → order_fee t trade r + fill_fee t (trade r) ≡ order_fee t trade (r + 1)
  unfolding order_fee sum_to
  fee_more trade r = rw (add-one r)

  -- what an order pays in so many rounds
  pub fees_most : tariff_stands t ≡ true → (trade : ℕ → Trade) (rounds : ℕ) → order_fee t trade rounds ≤ 100000000 * rounds
  unfolding order_fee
  fees_most stands trade rounds = sum_each (λ r. fill_fee t (trade r)) 100000000 rounds (λ r l. fee_most stands (trade r))

-- ---- The words of the rounds

-- what is left of the words of a result of n orders where r rounds are gone, and what an order paid in these
pub record Charged (t : Tariff) (n : ℕ) (words : List ℕ) (order r : ℕ) (left : List ℕ) (size fee : ℕ) : Type 0 where
  pub long : size ≡ n + 4
  pub within : r * (n + 4) ≤ length words
  pub words_left : left ≡ drop (r * (n + 4)) words
  pub paid : fee ≡ order_fee t (trade_in n words order) r

module _ {t : Tariff} {n : ℕ} {words : List ℕ} {order : ℕ} where
  pub charged_none : {left : List ℕ} {size : ℕ} → left ≡ words → size ≡ n + 4 → Charged t n words order 0 left size 0
  charged_none all long = record {
    long = long;
    within = rw (zero-mul (n + 4)) zero-le;
    words_left = rw (zero-mul (n + 4)) all;
    paid = fee_none t (trade_in n words order);
  }

  module _ {r : ℕ} {left : List ℕ} {size fee : ℕ} (c : Charged t n words order r left size fee) where
    left_length : length left ≡ length words - r * (n + 4)
    left_length = ap length c.words_left ∙ length-drop (r * (n + 4)) words

    -- the words of the next round stand first in what is left
    module _ (round next : List ℕ) (cut : left ≡ round ++ next) (whole : length round ≡ size) where
      one_more : r * (n + 4) + (n + 4) ≤ length words
      one_more = omega (arith, c.long, c.within, left_length, ap length cut, length-append round next)

      pub rounds_few : r < length words / (n + 4)
      rounds_few = (le-div_iff_mul-le {k = n + 4} {x = suc r} {y = length words} (omega arith)).1 (omega (arith, one_more))

      word_here : (i j : ℕ) → i ≡ j → j < n + 4 → get_or round i 0 ≡ get_or words (r * (n + 4) + j) 0
      word_here i j same few = rw same
          (sym (get_or-append round next 0 j (omega (arith, c.long, whole)))
          ∙ ap (λ (ws : List ℕ). get_or ws j 0) (sym cut ∙ c.words_left) ∙ get_or-drop (r * (n + 4)) words j 0)

      pub trade_here : order < n → trade_at round 0 order ≡ trade_in n words order r
      unfolding trade_at
      trade_here few = rw (word_here (0 + (4 + order)) (4 + order) (omega arith) (omega arith), word_here (0 + 2) 2 (omega arith) (omega arith))

      pub charged_more : order < n → {trade : Trade} {size' fill : ℕ} → trade ≡ trade_at round 0 order → size' ≡ size
          → fill ≡ fill_fee t trade → Charged t n words order (r + 1) next size' (fee + fill)
      charged_more few {trade} read kept fill-is = record {
        long = kept ∙ c.long;
        within = omega (arith, one_more);
        words_left = sym (drop_at round next (n + 4) (whole ∙ c.long))
            ∙ ap (λ (ws : List ℕ). drop (n + 4) ws) (sym cut ∙ c.words_left)
            ∙ drop-drop (n + 4) (r * (n + 4)) words
            ∙ ap (λ (i : ℕ). drop i words) (omega arith);
        paid = rw (fill-is, read, trade_here few, c.paid) (fee_more t (trade_in n words order) r);
      }

    -- where no whole round is left, the fee is that of all rounds
    pub charged_all : length left < size → fee ≡ order_fee t (trade_in n words order) (length words / (n + 4))
    charged_all short = rw (← all) c.paid
      where
        all : r ≡ length words / (n + 4)
        all = le_antisymm
            ((le-div_iff_mul-le {k = n + 4} {x = r} {y = length words} (omega arith)).1 c.within)
            (omega (arith, (div-lt_iff_lt-mul {k = n + 4} {x = length words} {y = suc r} (omega arith)).1 (omega (arith, left_length, c.long, short))))
