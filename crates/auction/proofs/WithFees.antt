-- The opening with fees. Where the tariff stands and the fee list has the places, the call answers what the opening answers; the words that
-- the opening leaves in front of the space are those of its result, whose trades are small, and so their fees are those of the rules.
use mathlib.Core.Bool.{true, false}
use mathlib.Core.List.{List, ◌++◌}
use mathlib.Core.Path.{◌≡◌, refl, sym, ap, ◌∙◌}
use Prim.Native.Nat.{ℕ, ◌+◌, ◌≤◌, ◌<◌}
use native.Mathlib.Omega.{arith}
use lib.Dec.{ltb}
use lib.ListN.{length, take, drop}
use borrow.Author.Tests.{lt-ltb}
use Rattle.claims.proofs.Bounds.{most_space}
use Rattle.claims.proofs.CallsHold.{as_opening, opening_fees_holds}
use Rattle.claims.proofs.Demand3Holds.{result_fits}
use Rattle.claims.proofs.Trades.{pieces_small, purchase_small}
use Rattle.claims.specs.Calls.{OpenedWithFees}
use Rattle.fees.specs.Trades.{trade_at, trade_in, Chargeable, fees_in}
use Rattle.rules.proofs.Accepted.{accepted_sound, own_rows, given_words}
use Rattle.rules.proofs.Lists.{length-listed, get_d_listed, listed-is, first_taken}
use Rattle.rules.proofs.Sums.{sum_same}
use Rattle.rules.proofs.Tests.{by_test}
use Rattle.rules.specs.Answers.{Answer, gives, refuses, downwards, refused, first_words}
use Rattle.rules.specs.Calls.{opening, opening_fees, answer_by, answer, Writes}
use Rattle.rules.specs.Fees.{tariff_stands, fill_fee, order_fee, trade_said, fees_on}
use Rattle.rules.specs.Opening.{opening_words, opening_space}
use Rattle.rules.specs.Result.{count, rounds_in, word_place, round_said}
use Rattle.rules.specs.Sheet.{check_sheet, AcceptedSheet}
use Rattle.rules.specs.Words.{word_at}
use Rattle.rules.specs.declared.Refusal.{Refusal}
use Rattle.rules.specs.declared.Sheet.{Sheet}
use Rattle.rules.specs.declared.Tariff.{Tariff}
use Rattle.run.proofs.Accepted.{count-is}
use Rattle.sheet.specs.Reading.{AcceptedAs}
use Rattle.auction.proofs.FirstRound.{refused_call}
use Rattle.auction.proofs.Spaces.{refusal_writes, words_fit}

-- ---- The words of a result, read by their places

-- a trade of an order of the sheet is the one that the round's words say
trade_said_lem : (ws rs : List ℕ) (k r : ℕ) → k < count ws → trade_in (count ws) rs k r ≡ trade_said ws rs k r
unfolding trade_at trade_said round_said
trade_said_lem ws rs k r l = rw (get_d_listed (λ j. (word_at rs (word_place ws r (4 + j))).value) (count ws) k 0 l)

fees_said : (t : Tariff) (ws rs : List ℕ) → fees_in t (count ws) rs ≡ fees_on t ws rs
unfolding fees_in fees_on order_fee
fees_said t ws rs =
    listed-is _ (count ws) 0 (fees_on t ws rs) (length-listed _ (count ws))
    (λ k l.
    sum_same _ _ (rounds_in ws rs) (λ r m. ap (fill_fee t) (trade_said_lem ws rs k r l)) ∙ sym (get_d_listed _ (count ws) k 0 l))

-- the words of an opening have fees that 64 bits hold
chargeable : (t : Tariff) (ws : List ℕ) → tariff_stands t ≡ true → AcceptedSheet ws → Chargeable t (count ws) (opening_words ws)
unfolding trade_said
chargeable t ws stands accepted =
    let few = (accepted_sound ws accepted).heading.count in
    record {
      tariff = stands;
      orders = few;
      words = omega (arith, result_fits ws accepted, most_space (count ws) few);
      trades = λ k r l m.
          rw (trade_said_lem ws (opening_words ws) k r l)
          (record { pieces = pieces_small ws accepted r m k l; purchase = purchase_small ws accepted r m });
    }

-- ---- Refusals, which write nothing

module _ {ws : List ℕ} {t : Tariff} {space list : List ℕ} where
  fees_refused : {n k : ℕ} → answer (opening_fees ws t (length space) (length list)) ≡ refuses n k
      → OpenedWithFees ws t space space list list (refuses n k)
  fees_refused refusal = opening_fees_holds (refusal_writes refusal) (rw refusal)

  pub sheet_refused : (refusal : Refusal) → check_sheet ws ≡ refused refusal → OpenedWithFees ws t space space list list (refused refusal)
  unfolding answer answer_by
  sheet_refused refusal fault = fees_refused (sym (refused_call ws refusal fault _ _))

  module _ {s : Sheet} (a : AcceptedAs ws s) where
    pub tariff_refused : tariff_stands t ≡ false → OpenedWithFees ws t space space list list (refuses 16 0)
    unfolding answer answer_by downwards
    tariff_refused falls = fees_refused (own_rows ws a.passes _ _ ∙ rw falls)

    pub list_refused : tariff_stands t ≡ true → length list < s.heading.count → OpenedWithFees ws t space space list list (refuses 10 0)
    unfolding answer answer_by downwards
    list_refused stands short =
        fees_refused
        (own_rows ws a.passes _ _
        ∙ rw (stands, lt-ltb (length list) (count ws) (omega (arith, count-is a)))
        (by_test (λ x. x ≡ refuses 10 0) (ltb (length space) (opening_space (count ws))) (λ e. refl) (λ e. refl)))

-- ---- The words that the opening gives

module _ {ws before after : List ℕ} (written : ℕ) (writes : Writes (opening ws (length before)) before after (gives (first_words written after))) where
  -- they are those of its result
  opened_words : first_words written after ≡ opening_words ws
  unfolding answer answer_by opening_words
  opened_words = given_words ws _ (opening_words ws) (sym writes.answers)

  -- and stand in front of the space
  words_taken : take written after ≡ opening_words ws
  words_taken = sym (first_taken after written (words_fit written writes)) ∙ opened_words

-- ---- The opening runs

module _ {ws : List ℕ} {s : Sheet} (a : AcceptedAs ws s) (t : Tariff) (stands : tariff_stands t ≡ true)
    {before after : List ℕ} where
  -- what is written and answered is what the opening writes and answers
  as_opened : {answered : Answer} → Writes (opening ws (length before)) before after answered → (list : List ℕ) → s.heading.count ≤ length list
      → Writes (opening_fees ws t (length before) (length list)) before after answered
  as_opened writes list places =
      let same = as_opening ws t (length before) (length list) stands (omega (arith, count-is a)) in
      record { answers = writes.answers ∙ sym same; holds = rw same writes.holds }

  -- too small a space refuses the call as it refuses the opening
  pub space_refused : {n k : ℕ} → Writes (opening ws (length before)) before after (refuses n k) → (list : List ℕ) → s.heading.count ≤ length list
      → OpenedWithFees ws t before after list list (refuses n k)
  space_refused writes list places =
      let same = as_opened writes list places in
      opening_fees_holds same (rw (← same.answers))

  module _ (written : ℕ) (writes : Writes (opening ws (length before)) before after (gives (first_words written after))) where
    pub words_chargeable : Chargeable t s.heading.count (take written after)
    words_chargeable = rw (words_taken written writes, count-is a) (chargeable t ws stands a.passes)

    -- the fees go in front of the list
    pub fees_written : (list : List ℕ) {listAfter : List ℕ} → s.heading.count ≤ length list
        → listAfter ≡ fees_in t s.heading.count (take written after) ++ drop s.heading.count list
        → OpenedWithFees ws t before after list listAfter (gives (first_words written after))
    unfolding fees_on
    fees_written list places charged =
        let same = as_opened writes list places in
        opening_fees_holds same
        (charged
        ∙ rw (← same.answers, opened_words written writes, words_taken written writes, count-is a, fees_said t ws (opening_words ws), length-listed (λ k. order_fee t (trade_said ws (opening_words ws) k) (rounds_in ws (opening_words ws))) (count ws)))
