-- The run of an opening, round by round. Before a round its start is the rules' start of that number, the words of the rounds before it stand
-- in front of the space, and the opening went on after each of them; the round is then the rules' round of that number. As each round that
-- goes on uses up an order, there is room for the next one, and for the last word behind it.
use mathlib.Core.Bool.{Bool, true, false}
use mathlib.Core.List.{List, [], ◌∷◌, ◌++◌, append_assoc}
use mathlib.Core.Path.{◌≡◌, refl, sym, ap, ◌∙◌}
use Prim.Native.Nat.{ℕ, suc, ◌+◌, ◌-◌, ◌*◌, ◌≤◌, ◌<◌}
use native.Mathlib.Nat.{le_trans, suc-mul, mul-le-mul_right}
use native.Mathlib.Numerals.{add-one}
use native.Mathlib.Omega.{arith}
use lib.ListN.{length, get_or, take, drop, set, length-append}
use lib.Seq.{take_at, drop_at, drop-drop, drop-cons, set_at}
use Rattle.book.specs.Book.{Ranged}
use Rattle.book.specs.Filed.{filed_in, remaining_in}
use Rattle.claims.proofs.Bounds.{most_space}
use Rattle.claims.specs.Fits.{FitsWords}
use Rattle.claims.proofs.Rounds.{live, leaves_fewer, count-orders}
use Rattle.claims.proofs.Opening.{opening_start, opening_round, OpeningGoesTo, sound_start, start_long, fills_count_lem, few_rounds, words_count, opening_is, number_fits}
use Rattle.claims.proofs.Run.{start_at, goes_further, words_more}
use Rattle.round.proofs.OneRound.{of_orders_lem}
use Rattle.round.specs.HandedBack.{handed_back, with_places, of_orders}
use Rattle.round.specs.declared.Round as declared
use Rattle.rules.proofs.Accepted.{sound_band}
use Rattle.rules.specs.Result.{count}
use Rattle.rules.specs.Limits.{no_order, filed, standing}
use Rattle.rules.specs.Lists.{listed}
use Rattle.rules.specs.Opening.{Start as RulesStart, round_of, round_from, first_start, after, goes_on, ending_after, round_words, rounds_words, opening_words, round_space, opening_space}
use Rattle.rules.specs.Sheet.{D, H, heading_of, orders_of}
use Rattle.rules.specs.Words.{word}
use Rattle.rules.specs.declared.Heading.{Heading}
use Rattle.rules.specs.declared.Sheet.{Sheet}
use Rattle.run.proofs.Accepted.{orders_are, count-is, sound, sheet_ranged}
use Rattle.book.proofs.Remaining.{remaining_at}
use Rattle.run.proofs.Places.{remaining_first, rules_start, start_after_lem}
use Rattle.sheet.specs.Reading.{AcceptedAs}
use Rattle.run.specs.Starts.{start_of, start_after, Ran}
use Rattle.run.specs.declared.start.Start.{Start}

-- round k is to be run, and its words go to the place at
pub record Running (ws : List ℕ) (h : Heading) (before space : List ℕ) (start : Start) (at k : ℕ) : Type 0 where
  pub starts : rules_start h start ≡ opening_start ws k
  pub goes : OpeningGoesTo ws k
  pub place : at ≡ k * (count ws + 4)
  pub holds : space ≡ rounds_words (listed (opening_round ws) k) ++ drop at before

-- the room that is left before round k of an opening of n orders: the stretch of the round ends before the space does
pub record Room (n long at k : ℕ) : Type 0 where
  pub ends : at + round_space n < long
  pub short : at + round_space n ≤ 15004
  pub few : k ≤ 120

module _ {ws : List ℕ} {s : Sheet} (a : AcceptedAs ws s) where
  band : D (heading_of ws) ≤ H (heading_of ws)
  band = sound_band (sound a)

  -- before the first round
  pub running_none : (before : List ℕ) → Running ws s.heading before before (start_of s.heading s.orders) 0 0
  unfolding rules_start start_of start_at first_start listed rounds_words
  running_none before = record {
    starts = rw (remaining_first s.heading s.orders, orders_are a, a.headed);
    goes = λ j l. absurd (omega arith);
    place = omega arith;
    holds = refl;
  }

  module _ {before space : List ℕ} {start : Start} {at k : ℕ} (v : Running ws s.heading before space start at k) where
    -- ---- The room

    -- the stretch of round k ends before the words that are needed do
    stretch : at + round_space s.heading.count < opening_space s.heading.count
    stretch =
        let few : k ≤ count ws = omega (arith, few_rounds ws band k v.goes) in
        let most : k * (count ws + 4) ≤ count ws * (count ws + 4) = mul-le-mul_right {m = k} {n = count ws} (count ws + 4) few in
        let more : (count ws + 1) * (count ws + 4) ≡ count ws * (count ws + 4) + (count ws + 4) =
        rw (add-one (count ws)) (suc-mul (count ws) (count ws + 4)) in
        rw (count-is a) (omega (arith, v.place))

    pub room : opening_space s.heading.count ≤ length before → Room s.heading.count (length before) at k
    room enough =
        let few : s.heading.count ≤ 120 = omega (arith, count-is a, (sound a).heading.count) in
        record {
          ends = le_trans stretch enough;
          short = omega (arith, stretch, most_space s.heading.count few);
          few = omega (arith, few_rounds ws band k v.goes, (sound a).heading.count);
        }

    words_long : length (rounds_words (listed (opening_round ws) k)) ≡ at
    words_long = words_count ws k ∙ sym v.place

    -- ---- The round

    -- what remains is no more than the quantities
    pub round_ranged : Ranged s.heading (filed_in s.heading s.orders) start.remaining
    unfolding rules_start
    round_ranged =
        sheet_ranged a start.remaining
        (λ j l.
        let own : j < count ws = omega (arith, ap length (orders_are a), count-orders ws) in
        let most = ((sound a).orders j no_order own).most in
        let left : get_or (opening_start ws k).remaining j 0 ≤ (filed (orders_of ws) j).quantity.0 = (sound_start ws (sound a) k).pieces j own in
        let same : get_or (remaining_in s.heading start.remaining) j 0 ≡ get_or (opening_start ws k).remaining j 0 =
        ap (λ (r : RulesStart). get_or r.remaining j 0) v.starts in
        omega (arith, remaining_at s.heading start.remaining j (omega (arith, count-is a))))

    module _ (r : declared.Round)
        (given : handed_back r ≡ with_places (round_of s.heading start.last.0 (standing s.heading (filed_in s.heading s.orders) (remaining_in s.heading start.remaining)))) where
      -- what is handed back is the rules' round of that number
      handed : handed_back r ≡ with_places (opening_round ws k)
      unfolding round_from rules_start
      handed = rw (← v.starts, ← orders_are a, ← a.headed) given

      pub round_is : of_orders s.heading.count r ≡ opening_round ws k
      round_is = of_orders_lem s.heading.count (opening_round ws k) r (fills_count_lem ws k ∙ sym (count-is a)) handed

      pub round_fits : FitsWords (of_orders s.heading.count r)
      round_fits = rw round_is (number_fits ws (sound a) k)

      -- ---- The space with the round in it

      -- the part lent to the writer, put back with the words of the round
      pub with_round : {last : List ℕ} → last ≡ round_words (of_orders s.heading.count r)
          → take at space ++ (last ++ drop (at + round_space s.heading.count - at) (drop at space))
          ≡ rounds_words (listed (opening_round ws) (suc k)) ++ drop (at + round_space s.heading.count) before
      with_round {last} e =
          let W : List ℕ = rounds_words (listed (opening_round ws) k) in
          let size : at + round_space s.heading.count - at ≡ round_space s.heading.count = omega arith in
          let front : take at space ≡ W = rw v.holds (take_at W (drop at before) at words_long) in
          let behind : drop at space ≡ drop at before = rw v.holds (drop_at W (drop at before) at words_long) in
          let rest : drop (round_space s.heading.count) (drop at before) ≡ drop (at + round_space s.heading.count) before =
          drop-drop (round_space s.heading.count) at before in
          rw (size, front, behind, rest, e, round_is, words_more (opening_round ws) k)
          (sym (append_assoc W (round_words (opening_round ws k)) (drop (at + round_space s.heading.count) before)))

      place_next : at + round_space s.heading.count ≡ suc k * (count ws + 4)
      place_next = rw (suc-mul k (count ws + 4)) (omega (arith, v.place, count-is a))

      on_or_not : {t : Bool} → goes_on s.heading (handed_back r) ≡ t → goes_on (heading_of ws) (opening_round ws k) ≡ t
      unfolding goes_on
      on_or_not e = rw (← round_is, ← a.headed) e

      -- what the round leaves is the rules' next start
      next_start : rules_start s.heading (start_after start r) ≡ after (opening_start ws k) (opening_round ws k)
      next_start =
          let few : s.heading.count ≤ 120 = omega (arith, (sound a).heading.count, count-is a) in
          let long : length (rules_start s.heading start).remaining ≡ s.heading.count = rw v.starts (start_long ws k ∙ sym (count-is a)) in
          start_after_lem s.heading start r few long ∙ rw (v.starts, round_is)

      -- after a round that goes on
      pub running_on : goes_on s.heading (handed_back r) ≡ true → {after : List ℕ}
          → after ≡ rounds_words (listed (opening_round ws) (suc k)) ++ drop (at + round_space s.heading.count) before
          → Running ws s.heading before after (start_after start r) (at + round_space s.heading.count) (k + 1)
      unfolding start_at
      running_on on holds =
          rw (add-one k)
          (record {
            starts = next_start;
            goes = goes_further (round_from ws) (heading_of ws) (first_start ws) k v.goes (on_or_not on);
            place = place_next;
            holds = holds;
          })

      -- and fewer orders have pieces left
      pub fewer_left : goes_on s.heading (handed_back r) ≡ true → live (rules_start s.heading (start_after start r)) < live (rules_start s.heading start)
      fewer_left on =
          rw (next_start, v.starts)
          (leaves_fewer ws band (opening_start ws k) (start_long ws k ∙ sym (count-orders ws)) (on_or_not on))

      -- after the last round, with its ending and the number of rounds behind it
      pub ran : goes_on s.heading (handed_back r) ≡ false → {after : List ℕ}
          → after ≡ rounds_words (listed (opening_round ws) (suc k)) ++ drop (at + round_space s.heading.count) before
          → at + round_space s.heading.count < length before → {ending w : ℕ} → ending ≡ ending_after s.heading (handed_back r)
          → w ≡ word 15 (ending * 65536 + (k + 1)) → Ran ws before (set after (at + round_space s.heading.count) w) (at + round_space s.heading.count + 1)
      unfolding ending_after
      ran off {after} holds inside {ending} {w} ended e =
          let N : ℕ = at + round_space s.heading.count in
          let W : List ℕ = rounds_words (listed (opening_round ws) (suc k)) in
          let long : length W ≡ N = words_count ws (suc k) ∙ sym place_next in
          let ending-is : ending ≡ ending_after (heading_of ws) (opening_round ws k) = rw (← round_is, ← a.headed) ended in
          let last-is : w ≡ word 15 (ending_after (heading_of ws) (opening_round ws k) * 65536 + suc k) = rw (← ending-is, ← add-one k) e in
          let words : opening_words ws ≡ W ++ (w ∷ []) =
          opening_is ws band k (record { goes = v.goes; ends = on_or_not off }) ∙ rw last-is in
          record {
            count = rw (words, length-append, long);
            holds = rw (words, holds, drop-cons before N 0 inside, add-one N)
                (set_at W (get_or before N 0) (drop (suc N) before) w N long
                ∙ sym (append_assoc W (w ∷ []) (drop (suc N) before)));
          }
