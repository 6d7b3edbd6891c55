-- The rounds of an opening by number: the run of the rules' rounds from the sheet's start. Each round that goes on uses up an order, so
-- the opening has a last round within n + 1; what remains of an order and what it was given make up its quantity; and on an accepted
-- sheet each value fits its word.
use mathlib.Core.Bool.{true}
use mathlib.Core.List.{List, [], ◌∷◌, ◌++◌}
use mathlib.Core.Path.{◌≡◌, sym, ◌∙◌}
use Prim.Native.Nat.{ℕ, zero, suc, ◌+◌, ◌*◌, ◌≤◌, ◌<◌}
use native.Mathlib.Nat.{le_trans}
use native.Mathlib.Omega.{arith}
use lib.Dec.{ltb}
use lib.ListN.{length, get_or, length-map, get_or-map}
use Rattle.claims.proofs.Bounds.{FewPieces, purchase_le, round_fits}
use Rattle.claims.specs.Fits.{FitsWords}
use Rattle.claims.proofs.Fills.{fills_lawful}
use Rattle.claims.proofs.Rounds.{count-orders, length-standing, remaining_standing, live, length-after, remaining_after, few_live, leaves_fewer}
use Rattle.claims.proofs.Run.{start_at, round_at, GoesTo, LastRound, Ending, few_rounds as run-few-rounds, ending_round as run-ending, run_words, rounds_long}
use Rattle.claims.proofs.Totals.{fills_length}
use Rattle.rules.proofs.Accepted.{SoundSheet, sound_band}
use Rattle.rules.proofs.Tests.{by_test}
use Rattle.rules.specs.AuctionPrice.{Auction, auction}
use Rattle.rules.specs.Result.{count}
use Rattle.rules.specs.Fills.{fill_of}
use Rattle.rules.specs.Grid.{last_price}
use Rattle.rules.specs.Limits.{no_order, filed, standing}
use Rattle.rules.specs.Lists.{listed, sum_to}
use Rattle.rules.specs.Opening.{Start, Round, settled, round_from, first_start, after, goes_on, ending_after, rounds_words, opening_by, opening_words}
use Rattle.rules.specs.Sheet.{D, H, heading_of, orders_of}
use Rattle.rules.specs.Words.{word}
use Rattle.rules.specs.declared.Order.{Order}
use Rattle.rules.specs.declared.Standing.{Standing}

-- what round k of a sheet's opening starts from, and that round
abbrev pub opening_start : List ℕ → ℕ → Start
opening_start ws k = start_at (round_from ws) (first_start ws) k

abbrev pub opening_round : List ℕ → ℕ → Round
opening_round ws k = round_at (round_from ws) (first_start ws) k

-- the opening goes on to round k, and ends with it
abbrev pub OpeningGoesTo : List ℕ → ℕ → Type 0
OpeningGoesTo ws k = GoesTo (round_from ws) (heading_of ws) (first_start ws) k

abbrev pub OpeningEnds : List ℕ → ℕ → Type 0
OpeningEnds ws k = LastRound (round_from ws) (heading_of ws) (first_start ws) k

-- ---- There are as many remainders and fills as orders

pub start_long : (ws : List ℕ) (k : ℕ) → length (opening_start ws k).remaining ≡ count ws
unfolding start_at first_start
start_long ws zero = length-map (orders_of ws) (λ (o : Order). o.quantity.0) ∙ count-orders ws
start_long ws (suc k) = length-after (opening_start ws k) (opening_round ws k) ∙ start_long ws k

abbrev orders_from : List ℕ → Start → List Standing
orders_from ws s = standing (heading_of ws) (orders_of ws) s.remaining

standing-long : (ws : List ℕ) (s : Start) → length (orders_from ws s) ≡ count ws
standing-long ws s = length-standing (heading_of ws) (orders_of ws) s.remaining ∙ count-orders ws

abbrev auction_from : List ℕ → Start → Auction
auction_from ws s = auction (heading_of ws) s.last (orders_from ws s)

pub fills_count_lem : (ws : List ℕ) (k : ℕ) → length (opening_round ws k).fills ≡ count ws
unfolding round_from settled
fills_count_lem ws k =
    fills_length (heading_of ws) (auction_from ws (opening_start ws k)) (orders_from ws (opening_start ws k)) ∙ standing-long ws (opening_start ws k)

-- ---- The last round

module _ (ws : List ℕ) (band : D (heading_of ws) ≤ H (heading_of ws)) where
  at_first : live (first_start ws) ≤ count ws
  unfolding start_at
  at_first = omega (arith, few_live (first_start ws), start_long ws 0)

  leaves : (k : ℕ) → goes_on (heading_of ws) (opening_round ws k) ≡ true → live (after (opening_start ws k) (opening_round ws k)) < live (opening_start ws k)
  leaves k = leaves_fewer ws band (opening_start ws k) (start_long ws k ∙ sym (count-orders ws))

  -- each round that goes on uses up an order
  pub few_rounds : (k : ℕ) → OpeningGoesTo ws k → k + live (opening_start ws k) ≤ count ws
  few_rounds = run-few-rounds (round_from ws) (heading_of ws) (first_start ws) (count ws) at_first leaves

  pub ending_round : Ending (round_from ws) (heading_of ws) (first_start ws)
  ending_round = run-ending (round_from ws) (heading_of ws) (first_start ws) (count ws) at_first leaves

  -- the words that the opening writes
  pub opening_is : (k : ℕ) → OpeningEnds ws k
      → opening_words ws ≡ rounds_words (listed (opening_round ws) (suc k))
      ++ (word 15 (ending_after (heading_of ws) (opening_round ws k) * 65536 + suc k) ∷ [])
  unfolding opening_words opening_by
  opening_is k last =
      run_words (round_from ws) (heading_of ws) (first_start ws) (count ws) k last (omega (arith, few_rounds k last.goes))

pub words_count : (ws : List ℕ) (k : ℕ) → length (rounds_words (listed (opening_round ws) k)) ≡ k * (count ws + 4)
words_count ws = rounds_long (opening_round ws) (count ws) (fills_count_lem ws)

-- ---- An accepted sheet

-- what a round of an accepted sheet starts from
pub record SoundStart (ws : List ℕ) (s : Start) : Type 0 where
  pub last : s.last ≤ last_price
  pub pieces : (k : ℕ) → k < count ws → get_or s.remaining k 0 ≤ (filed (orders_of ws) k).quantity.0

module _ (ws : List ℕ) (sheet : SoundSheet ws) where
  fill_within : (k j : ℕ) → j < count ws → fill_of (opening_round ws k).fills j ≤ get_or (opening_start ws k).remaining j 0
  unfolding round_from settled
  fill_within k j l =
      let s : Start = opening_start ws k in
      rw (← remaining_standing (heading_of ws) (orders_of ws) s.remaining j (omega (arith, count-orders ws)))
      ((fills_lawful (heading_of ws) (auction_from ws s) (orders_from ws s) (sound_band sheet)).F1-within j (omega (arith, standing-long ws s)))

  -- what remains of an order and what it was given make up its quantity
  pub left_and_given : (k j : ℕ) → j < count ws
      → get_or (opening_start ws k).remaining j 0 + sum_to (λ r. fill_of (opening_round ws r).fills j) k
      ≡ (filed (orders_of ws) j).quantity.0
  unfolding start_at first_start sum_to
  left_and_given zero j l = rw (get_or-map (λ (o : Order). o.quantity.0) (orders_of ws) j no_order) (omega arith)
  left_and_given (suc k) j l =
      rw (remaining_after (opening_start ws k) (opening_round ws k) j (omega (arith, start_long ws k)))
      (omega (arith, left_and_given k j l, fill_within k j l))

  round_purchase : (s : Start) → (round_from ws s).purchase ≤ last_price
  unfolding round_from settled
  round_purchase s =
      le_trans (purchase_le (heading_of ws) (auction_from ws s) (round_from ws s).total (sound_band sheet)) sheet.heading.upper.1

  last_le : (k : ℕ) → (opening_start ws k).last ≤ last_price
  unfolding start_at first_start after
  last_le zero = sheet.heading.last.1
  last_le (suc k) =
      by_test (λ p. p ≤ last_price) (ltb 0 (opening_round ws k).purchase) (λ e. round_purchase (opening_start ws k)) (λ e. last_le k)

  pub sound_start : (k : ℕ) → SoundStart ws (opening_start ws k)
  sound_start k = record { last = last_le k; pieces = λ j l. omega (arith, left_and_given k j l) }

  few_pieces : (s : Start) → SoundStart ws s → FewPieces (orders_from ws s)
  few_pieces s sound = record {
    few = omega (arith, standing-long ws s, sheet.heading.count);
    pieces = λ k l.
        let own : k < count ws = omega (arith, standing-long ws s) in
        rw (remaining_standing (heading_of ws) (orders_of ws) s.remaining k (omega (arith, count-orders ws)))
        (omega (arith, sound.pieces k own, (sheet.orders k no_order own).most));
  }

  -- so the values of each round fit their words
  pub number_fits : (k : ℕ) → FitsWords (opening_round ws k)
  unfolding round_from
  number_fits k =
      round_fits (heading_of ws) (opening_start ws k).last (orders_from ws (opening_start ws k)) (sound_band sheet) sheet.heading.upper.1
      sheet.heading.indicative.1 (sound_start k).last (few_pieces (opening_start ws k) (sound_start k))
