-- Demand 3 holds of the words that the opening of an accepted sheet writes. Each round's words say what the round is, so what is
-- worked out from the sheet and the words before a round is what the round started from; and of a round from any start the claims
-- hold.
use mathlib.Core.List.{List, [], ◌∷◌, ◌++◌, append_assoc}
use mathlib.Core.Logic.{◌⊎◌, inl, inr}
use mathlib.Core.Path.{◌≡◌, refl, sym, ap, ◌∙◌}
use Prim.Native.Nat.{ℕ, zero, suc, ◌+◌, ◌-◌, ◌*◌, ◌/◌, ◌≤◌, ◌<◌}
use native.Mathlib.Nat.{le_refl, add-zero, mul-le-mul_right, mul-add-div_right, div-eq_of_lt}
use native.Mathlib.Omega.{arith}
use lib.ListN.{length, get_or, length-append}
use lib.Seq.{get_or_at}
use Rattle.claims.proofs.ReadBack.{read_back, kinds_back}
use Rattle.claims.proofs.RoundHolds.{round_holds}
use Rattle.claims.proofs.Run.{start_at, words_more}
use Rattle.claims.proofs.Opening.{opening_start, opening_round, OpeningEnds, fills_count_lem, few_rounds, ending_round, words_count, opening_is, left_and_given, number_fits}
use Rattle.claims.proofs.Sums.{last_or_before}
use Rattle.rules.proofs.Accepted.{SoundSheet, accepted_sound, sound_band}
use Rattle.rules.proofs.Sums.{sum_same}
use Rattle.claims.specs.Demand3.{Kinds, SaidHolds, Demand3}
use Rattle.rules.specs.Result.{count, rounds_in, round_said, start_said, standing_said}
use Rattle.rules.specs.Fills.{fill_of}
use Rattle.rules.specs.Lists.{listed}
use Rattle.rules.specs.Opening.{Round, round_words, rounds_words, ending_after, opening_words, opening_space}
use Rattle.rules.specs.Sheet.{heading_of, AcceptedSheet}
use Rattle.rules.specs.Words.{word}

-- what holds of the words of round r, whatever follows them, holds of the words of all rounds
in_stretch : (P : List ℕ → Type 0) (f : ℕ → Round) (r m : ℕ) (rest : List ℕ) → r < m
    → ((rest : List ℕ) → P (rounds_words (listed f r) ++ (round_words (f r) ++ rest))) → P (rounds_words (listed f m) ++ rest)
in_stretch P f r zero rest l there = absurd (omega arith)
in_stretch P f r (suc m) rest l there =
    rw (words_more f m, append_assoc (rounds_words (listed f m)) (round_words (f m)) rest)
    (go (last_or_before l) (λ b. in_stretch P f r m (round_words (f m) ++ rest) b there))
  where
    go : (r ≡ m) ⊎ (r < m) → (r < m → P (rounds_words (listed f m) ++ (round_words (f m) ++ rest)))
        → P (rounds_words (listed f m) ++ (round_words (f m) ++ rest))
    go (inl e) before = rw e at (there rest)
    go (inr b) before = before b

-- a whole number of rounds and one word
rounds_of_length : (n rounds : ℕ) → (rounds * (n + 4) + 1) / (n + 4) ≡ rounds
rounds_of_length n rounds =
    mul-add-div_right {m = n + 4} (omega arith) rounds 1 ∙ rw (div-eq_of_lt {n = 1} {m = n + 4} (omega arith)) (add-zero rounds)

-- the opening of an accepted sheet whose last round is round k
module _ (ws : List ℕ) (sheet : SoundSheet ws) (k : ℕ) (last : OpeningEnds ws k) where
  abbrev n : ℕ
  n = count ws

  abbrev rs : List ℕ
  rs = opening_words ws

  abbrev words_before : ℕ → List ℕ
  words_before r = rounds_words (listed (opening_round ws) r)

  abbrev last_word : ℕ
  last_word = word 15 (ending_after (heading_of ws) (opening_round ws k) * 65536 + suc k)

  written : rs ≡ words_before (suc k) ++ (last_word ∷ [])
  written = opening_is ws (sound_band sheet) k last

  -- ---- How many words, and the last

  size_is : length rs ≡ suc k * (n + 4) + 1
  size_is = rw (written, length-append) (omega (arith, words_count ws (suc k)))

  rounds_are : rounds_in ws rs ≡ suc k
  rounds_are = rw size_is (rounds_of_length n (suc k))

  last_there : get_or rs (suc k * (n + 4)) 0 ≡ last_word
  last_there = rw written (get_or_at (words_before (suc k)) last_word [] 0 (suc k * (n + 4)) (words_count ws (suc k)))

  -- ---- The words of a round

  there : (P : List ℕ → Type 0) (r : ℕ) → r ≤ k
      → ((rest : List ℕ) → P (words_before r ++ (round_words (opening_round ws r) ++ rest))) → P rs
  there P r l each = rw written (in_stretch P (opening_round ws) r (suc k) (last_word ∷ []) (omega arith) each)

  kinds_there : (r : ℕ) → r ≤ k → Kinds ws rs r
  kinds_there r l =
      there (λ words. Kinds ws words r) r l
      (λ rest.
      kinds_back ws (words_before r) rest r (opening_round ws r) (words_count ws r) (fills_count_lem ws r) (number_fits ws sheet r))

  round_there : (r : ℕ) → r ≤ k → round_said ws rs r ≡ opening_round ws r
  round_there r l =
      there (λ words. round_said ws words r ≡ opening_round ws r) r l
      (λ rest.
      read_back ws (words_before r) rest r (opening_round ws r) (words_count ws r) (fills_count_lem ws r) (number_fits ws sheet r))

  last_round_there : round_said ws rs (rounds_in ws rs - 1) ≡ opening_round ws k
  last_round_there = let e : rounds_in ws rs - 1 ≡ k = omega (arith, rounds_are) in rw e (round_there k (le_refl k))

  -- what a round starts from, by the sheet and the words before it, is what it started from
  start_there : (r : ℕ) → r ≤ k → start_said ws rs r ≡ opening_start ws r
  unfolding start_said start_at
  start_there zero l = refl
  start_there (suc r) l = rw (start_there r (omega arith), round_there r (omega arith))

  -- ---- The claims

  round_claims : (r : ℕ) → r ≤ k → SaidHolds ws rs r
  unfolding standing_said
  round_claims r l = rw (start_there r l, round_there r l) (round_holds ws sheet (opening_start ws r))

  given_there : (j r : ℕ) → r ≤ k → fill_of (round_said ws rs r).fills j ≡ fill_of (opening_round ws r).fills j
  given_there j r l = ap (λ (x : Round). fill_of x.fills j) (round_there r l)

  claim_holds : Demand3 ws rs
  claim_holds =
      let number : rounds_in ws rs ≡ suc k = rounds_are in
      record {
        size = rw number size_is;
        kinds = λ r l. kinds_there r (omega arith);
        rounds = λ r l. round_claims r (omega arith);
        cleared = sum_same _ _ (rounds_in ws rs)
            (λ r l. let claims = round_claims r (omega arith) in sym claims.bought ∙ claims.sold);
        within = λ j l.
            rw (number, sum_same _ _ (suc k) (λ r m. given_there j r (omega arith)))
            (omega (arith, left_and_given ws sheet (suc k) j l));
        goes = λ r l. rw (round_there r (omega arith)) (last.goes r (omega arith));
        ends = rw last_round_there last.ends;
        last = rw (last_round_there, number) last_there;
        least = omega arith;
        most = omega (arith, few_rounds ws (sound_band sheet) k last.goes);
      }

pub demand3_holds : (ws : List ℕ) → AcceptedSheet ws → Demand3 ws (opening_words ws)
demand3_holds ws accepted =
    let sheet = accepted_sound ws accepted in
    let ending = ending_round ws (sound_band sheet) in
    claim_holds ws sheet ending.number ending.last

-- the result of an opening has no more words than its space needs
pub result_fits : (ws : List ℕ) → AcceptedSheet ws → length (opening_words ws) ≤ opening_space (count ws)
result_fits ws accepted =
    let claim = demand3_holds ws accepted in
    let rounds : ℕ = rounds_in ws (opening_words ws) in
    let most : rounds * (count ws + 4) ≤ (count ws + 1) * (count ws + 4) =
    mul-le-mul_right {m = rounds} {n = count ws + 1} (count ws + 4) claim.most in
    omega (arith, claim.size)
