-- Demand 3 leaves nothing open: words that meet its claim for an accepted sheet are the very words that the opening writes. Round by
-- round what they say is the round by the rules, so the claim fixes the number of rounds, and each word by its kind and value; and the
-- words of the opening meet it too.
use mathlib.Core.Bool.{Bool, true, false}
use mathlib.Core.List.{List}
use mathlib.Core.Path.{◌≡◌, refl, sym, ap, ◌∙◌}
use Prim.Native.Nat.{ℕ, zero, suc, ◌+◌, ◌-◌, ◌*◌, ◌/◌, ◌%◌, ◌≤◌, ◌<◌}
use native.Mathlib.Nat.{mod-lt, div-add-mod', div-lt_iff_lt-mul}
use native.Mathlib.Omega.{arith}
use lib.Dec.{ltb}
use lib.ListN.{length, get_or}
use lib.Seq.{ext_get_or}
use borrow.Author.Tests.{ltb-true, ltb-false}
use Rattle.claims.proofs.Demand3Holds.{demand3_holds}
use Rattle.claims.proofs.RoundHolds.{round_only}
use Rattle.claims.proofs.Opening.{opening_start, opening_round, OpeningEnds}
use Rattle.claims.proofs.Run.{start_at, last_not_before}
use Rattle.rules.proofs.Accepted.{SoundSheet, accepted_sound}
use Rattle.rules.proofs.Lists.{get_d_listed}
use Rattle.claims.specs.Demand3.{Kinds, Demand3}
use Rattle.rules.specs.Result.{count, rounds_in, word_place, round_said, start_said, standing_said}
use Rattle.rules.specs.Fills.{fill_of}
use Rattle.rules.specs.Opening.{Round, round_from, first_start, opening_words}
use Rattle.rules.specs.Sheet.{heading_of, AcceptedSheet}
use Rattle.rules.specs.Words.{word_at}

-- a word is known by its kind and value,
same_word : (v w : ℕ) → v / 0x1000_0000 ≡ w / 0x1000_0000 → v % 0x1000_0000 ≡ w % 0x1000_0000 → v ≡ w
same_word v w kind value = omega arith

fill_said : (ws rs : List ℕ) (r k : ℕ) → k < count ws
    → fill_of (round_said ws rs r).fills k ≡ (word_at rs (word_place ws r (4 + k))).value
unfolding round_said
fill_said ws rs r k l = get_d_listed _ (count ws) k 0 l

-- and so the words of a round are known by their kinds and by the round that they say
module _ (ws rs qs : List ℕ) (r : ℕ) (kinds : Kinds ws rs r) (kinds' : Kinds ws qs r)
    (same : round_said ws rs r ≡ round_said ws qs r) where
  same_words : (j : ℕ) → j < count ws + 4 → get_or rs (word_place ws r j) 0 ≡ get_or qs (word_place ws r j) 0
  unfolding round_said
  same_words zero l = same_word _ _ (kinds.situation ∙ sym kinds'.situation) (ap (λ (x : Round). x.situation) same)
  same_words (suc zero) l = same_word _ _ (kinds.price ∙ sym kinds'.price) (ap (λ (x : Round). x.price) same)
  same_words (suc (suc zero)) l = same_word _ _ (kinds.purchase ∙ sym kinds'.purchase) (ap (λ (x : Round). x.purchase) same)
  same_words (suc (suc (suc zero))) l = same_word _ _ (kinds.total ∙ sym kinds'.total) (ap (λ (x : Round). x.total) same)
  same_words (suc (suc (suc (suc k)))) l =
      let own : k < count ws = omega arith in
      let fifth : 4 + k ≡ suc (suc (suc (suc k))) = omega arith in
      rw (← fifth)
      (same_word _ _ (kinds.fills k own ∙ sym (kinds'.fills k own))
      (sym (fill_said ws rs r k own) ∙ ap (λ (x : Round). fill_of x.fills k) same ∙ fill_said ws qs r k own))

module _ (ws : List ℕ) (sheet : SoundSheet ws) where
  abbrev n : ℕ
  n = count ws

  -- what words that meet the claim say
  module _ (rs : List ℕ) (claim : Demand3 ws rs) where
    round_from_lem : (r : ℕ) → r < rounds_in ws rs → start_said ws rs r ≡ opening_start ws r → round_said ws rs r ≡ opening_round ws r
    unfolding standing_said
    round_from_lem r l start = round_only ws sheet (opening_start ws r) (round_said ws rs r) (rw start at (claim.rounds r l))

    starts_are : (r : ℕ) → r ≤ rounds_in ws rs → start_said ws rs r ≡ opening_start ws r
    unfolding start_said start_at
    starts_are zero l = refl
    starts_are (suc r) l = let start = starts_are r (omega arith) in rw (start, round_from_lem r l start)

    rounds_are : (r : ℕ) → r < rounds_in ws rs → round_said ws rs r ≡ opening_round ws r
    rounds_are r l = round_from_lem r l (starts_are r (omega arith))

    last_round : OpeningEnds ws (rounds_in ws rs - 1)
    last_round =
        let some : 1 ≤ rounds_in ws rs = claim.least in
        record {
          goes = λ r l. rw (rounds_are r (omega arith)) at (claim.goes r (omega arith));
          ends = rw (rounds_are (rounds_in ws rs - 1) (omega arith)) at claim.ends;
        }

  -- two lists of words that meet it are the same
  module _ (rs qs : List ℕ) (claim : Demand3 ws rs) (claim' : Demand3 ws qs) where
    abbrev rounds : ℕ
    rounds = rounds_in ws qs

    same_number : rounds_in ws rs ≡ rounds
    same_number =
        let one = last_not_before (round_from ws) (heading_of ws) (first_start ws) (rounds_in ws rs - 1) (rounds - 1) (last_round rs claim) (last_round qs claim') in
        let other = last_not_before (round_from ws) (heading_of ws) (first_start ws) (rounds - 1) (rounds_in ws rs - 1) (last_round qs claim') (last_round rs claim) in
        omega (arith, one, other, claim.least, claim'.least)

    same_round : (r : ℕ) → r < rounds → round_said ws rs r ≡ round_said ws qs r
    same_round r l = rounds_are rs claim r (omega (arith, same_number)) ∙ sym (rounds_are qs claim' r l)

    -- word i is one of round i / (n + 4), or the last
    same_place : (i : ℕ) → i < length rs → get_or rs i 0 ≡ get_or qs i 0
    same_place i l = go (ltb i (rounds * (n + 4))) refl
      where
        go : (t : Bool) → ltb i (rounds * (n + 4)) ≡ t → get_or rs i 0 ≡ get_or qs i 0
        go true e =
            let r : ℕ = i / (n + 4) in
            let own : r < rounds =
            (div-lt_iff_lt-mul {k = n + 4} {x = i} {y = rounds} (omega arith)).1 (ltb-true i (rounds * (n + 4)) e) in
            rw (← div-add-mod' i (n + 4))
            (same_words ws rs qs r (claim.kinds r (omega (arith, same_number))) (claim'.kinds r own) (same_round r own)
            (i % (n + 4)) (mod-lt i {m = n + 4} (omega arith)))
        go false e =
            let final : i ≡ rounds * (n + 4) =
            omega (arith, ltb-false i (rounds * (n + 4)) e, rw same_number at claim.size) in
            let ending = rw (same_number, same_round (rounds - 1) (omega (arith, claim'.least))) at claim.last in
            rw final (ending ∙ sym claim'.last)

    same_list : rs ≡ qs
    same_list = ext_get_or 0 rs qs (claim.size ∙ rw same_number (sym claim'.size)) same_place

-- the claim of demand 3 leaves nothing open
pub nothing_open : (ws rs : List ℕ) → AcceptedSheet ws → Demand3 ws rs → rs ≡ opening_words ws
nothing_open ws rs accepted claim =
    same_list ws (accepted_sound ws accepted) rs (opening_words ws) claim (demand3_holds ws accepted)
