-- The result words of a round in the part lent for them: four words at the front, then one for each fill, written one after the other.
use mathlib.Core.List.{List, [], ◌∷◌, ◌++◌, map, append-nil}
use mathlib.Core.Path.{◌≡◌, refl, sym, ap, ◌∙◌}
use Prim.Native.Nat.{ℕ, ◌-◌, ◌≤◌, ◌<◌}
use native.Mathlib.Omega.{arith}
use lib.ListN.{length, set, take, drop, length-take, drop_of_length-le}
use lib.Seq.{get_or-take}
use Rattle.claims.specs.Fits.{FitsWords}
use Rattle.lines.specs.Pieces.{pieces_of}
use Rattle.rules.proofs.Lists.{length-listed, get_d_listed, listed-is, map-listed}
use Rattle.rules.specs.Lists.{listed}
use Rattle.rules.specs.Words.{word}
use Rattle.rules.specs.declared.Pieces.{Pieces}
use Rattle.round.specs.HandedBack.{of_orders}
use Rattle.round.specs.declared.Round.{Round}

-- ---- The words of a round

-- four words at the front
abbrev pub four : List ℕ → ℕ → ℕ → ℕ → ℕ → List ℕ
four xs a b c d = set (set (set (set xs 0 a) 1 b) 2 c) 3 d

head_four : (xs : List ℕ) (a b c d : ℕ) → 4 ≤ length xs → four xs a b c d ≡ a ∷ b ∷ c ∷ d ∷ drop 4 xs
head_four (x ∷ y ∷ z ∷ w ∷ xs) a b c d h = refl
head_four (x ∷ y ∷ z ∷ []) a b c d h = absurd (omega arith)
head_four (x ∷ y ∷ []) a b c d h = absurd (omega arith)
head_four (x ∷ []) a b c d h = absurd (omega arith)
head_four [] a b c d h = absurd (omega arith)

pub round_written : (xs : List ℕ) (a b c d : ℕ) {last fills : List ℕ} → 4 ≤ length xs → last ≡ fills
    → take 4 (four xs a b c d) ++ (last ++ drop (length (four xs a b c d) - 4) (drop 4 (four xs a b c d)))
    ≡ a ∷ b ∷ c ∷ d ∷ fills
round_written xs a b c d {last} {fills} h e =
    rw (head_four xs a b c d h, e) (rest (drop 4 xs))
  where
    rest : (ys : List ℕ) → a ∷ b ∷ c ∷ d ∷ (fills ++ drop (length (a ∷ b ∷ c ∷ d ∷ ys) - 4) ys) ≡ a ∷ b ∷ c ∷ d ∷ fills
    rest ys =
        let all : length ys ≤ length (a ∷ b ∷ c ∷ d ∷ ys) - 4 = omega arith in
        rw (drop_of_length-le ys all) (ap (λ (zs : List ℕ). a ∷ b ∷ c ∷ d ∷ zs) (append-nil fills))

-- ---- The fills of the first n orders

-- they are n of the 120
pub fills_long : (n : ℕ) (r : Round) → length r.fills ≡ 120 → n ≤ 120 → length (take n r.fills) ≡ n
fills_long n r all few = length-take n r.fills ∙ omega (arith, all)

same_pieces : (n : ℕ) (r : Round) (k : ℕ) → k < n → pieces_of (take n r.fills) k ≡ pieces_of r.fills k
same_pieces n r k l = ap (λ (m : Pieces). m.0) (get_or-take n r.fills k (record { 0 = 0 }) l)

-- where the round fits its words, each fill does
pub fills_fit : (n : ℕ) (r : Round) → FitsWords (of_orders n r) → (k : ℕ) → k < n → pieces_of (take n r.fills) k < 0x1000_0000
fills_fit n r fits k l =
    rw (same_pieces n r k l)
    (rw (get_d_listed (pieces_of r.fills) n k 0 l) at (fits.fills k (rw (length-listed (pieces_of r.fills) n) l)))

-- their words are those of the round
pub fills_part : (n : ℕ) (r : Round) → listed (λ k. word 14 (pieces_of (take n r.fills) k)) n ≡ map (word 14) (of_orders n r).fills
fills_part n r =
    rw (map-listed (word 14) (pieces_of r.fills) n)
    (listed-is _ n 0 _ (length-listed _ n)
    (λ k l. ap (word 14) (same_pieces n r k l) ∙ sym (get_d_listed (λ k. word 14 (pieces_of r.fills k)) n k 0 l)))
