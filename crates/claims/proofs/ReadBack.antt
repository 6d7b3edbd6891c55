-- The words of a round say what the round is: the kind and the value of each word are those it was written for, as the value fits the
-- low 28 bits.
use mathlib.Core.List.{List, [], ◌∷◌, ◌++◌, map}
use mathlib.Core.Path.{◌≡◌, refl, ap, ◌∙◌}
use Prim.Native.Nat.{ℕ, zero, suc, ◌+◌, ◌*◌, ◌/◌, ◌%◌, ◌<◌}
use native.Mathlib.Omega.{arith}
use lib.ListN.{length, get_or}
use lib.Seq.{get_or-append-add}
use Rattle.claims.specs.Fits.{FitsWords}
use Rattle.rules.proofs.Lists.{listed-is}
use Rattle.claims.specs.Demand3.{Kinds}
use Rattle.rules.specs.Result.{count, word_place, round_said}
use Rattle.rules.specs.Fills.{fill_of}
use Rattle.rules.specs.Lists.{listed}
use Rattle.rules.specs.Opening.{Round, round_words}
use Rattle.rules.specs.Words.{word, word_at}

value_of : (kind value : ℕ) → value < 0x1000_0000 → word kind value % 0x1000_0000 ≡ value
value_of kind value small = omega arith

kind_of : (kind value : ℕ) → value < 0x1000_0000 → word kind value / 0x1000_0000 ≡ kind
kind_of kind value small = omega arith

mapped_at : (f : ℕ → ℕ) (xs rest : List ℕ) (k : ℕ) → k < length xs → get_or (map f xs ++ rest) k 0 ≡ f (get_or xs k 0)
mapped_at f [] rest k l = absurd (omega arith)
mapped_at f (x ∷ xs) rest zero l = refl
mapped_at f (x ∷ xs) rest (suc k) l = mapped_at f xs rest k (omega arith)

-- round r after the words before it
module _ (ws before rest : List ℕ) (r : ℕ) (R : Round) (start : length before ≡ r * (count ws + 4))
    (each : length R.fills ≡ count ws) (fits : FitsWords R) where
  abbrev words : List ℕ
  words = before ++ (round_words R ++ rest)

  word_of : (j : ℕ) → get_or words (word_place ws r j) 0 ≡ get_or (round_words R ++ rest) j 0
  word_of j = rw (← start) (get_or-append-add before (round_words R ++ rest) j 0)

  fill_of_lem : (k : ℕ) → k < count ws → get_or (round_words R ++ rest) (4 + k) 0 ≡ word 14 (fill_of R.fills k)
  unfolding round_words
  fill_of_lem k l =
      let fifth : 4 + k ≡ suc (suc (suc (suc k))) = omega arith in
      rw fifth (mapped_at (word 14) R.fills rest k (omega arith))

  fills_are : listed (λ k. (word_at words (word_place ws r (4 + k))).value) (count ws) ≡ R.fills
  fills_are =
      listed-is _ (count ws) 0 R.fills each
      (λ k l.
      ap (λ (w : ℕ). w % 0x1000_0000) (word_of (4 + k) ∙ fill_of_lem k l)
      ∙ value_of 14 (fill_of R.fills k) (fits.fills k (omega arith)))

  pub read_back : round_said ws words r ≡ R
  unfolding round_said round_words
  read_back =
      rw (word_of 0, word_of 1, word_of 2, word_of 3, fills_are, value_of 10 R.situation fits.situation, value_of 11 R.price fits.price, value_of 12 R.purchase fits.purchase, value_of 13 R.total fits.total)

  pub kinds_back : Kinds ws words r
  unfolding round_words
  kinds_back = record {
    situation = rw (word_of 0) (kind_of 10 R.situation fits.situation);
    price = rw (word_of 1) (kind_of 11 R.price fits.price);
    purchase = rw (word_of 2) (kind_of 12 R.purchase fits.purchase);
    total = rw (word_of 3) (kind_of 13 R.total fits.total);
    fills = λ k l.
        rw (word_of (4 + k), fill_of_lem k l) (kind_of 14 (fill_of R.fills k) (fits.fills k (omega arith)));
  }
