-- Bytes in chunks: four make a word of a sheet, nine a line of a listing.
use mathlib.Core.List.{List, []}
use mathlib.Core.Path.{◌≡◌, ◌∙◌}
use Prim.Native.Nat.{ℕ, zero, suc, ◌+◌, ◌*◌, ◌<◌}
use native.Mathlib.Nat.{mul-suc, add-zero}
use native.Mathlib.Omega.{arith}
use mir.Syntax.{w32}
use lib.ListN.{get_or, take, drop}
use lib.Seq.{drop-drop}
use Rattle.std.proofs.lemmas.List.{get_or-take, get_or-drop}
use Rattle.std.specs.Int.{from_be_bytes}
use Rattle.std.specs.List.{slice_index}
use Rattle.std.specs.Simd.{first_chunks}
use Rattle.rules.specs.Listing.{word_in}

-- chunk i of n bytes each
abbrev pub chunk_of : ℕ → List ℕ → ℕ → List ℕ
chunk_of n bytes i = take n (drop (n * i) bytes)

pub chunk_at : (n k : ℕ) (bytes : List ℕ) (i : ℕ) → i < k → get_or (first_chunks n k bytes) i [] ≡ chunk_of n bytes i
chunk_at n zero bytes i l = absurd (omega arith)
chunk_at n (suc k) bytes zero l = let none : n * 0 ≡ 0 = omega arith in rw none
chunk_at n (suc k) bytes (suc i) l =
    let later : n * suc i ≡ n + n * i = omega (arith, mul-suc n i) in
    rw (later, ← drop-drop (n * i) n bytes) (chunk_at n k (drop n bytes) i (omega arith))

pub byte_in : (n : ℕ) (bytes : List ℕ) (i j : ℕ) → j < n → get_or (chunk_of n bytes i) j 0 ≡ get_or bytes (n * i + j) 0
byte_in n bytes i j l = get_or-take n (drop (n * i) bytes) j 0 l ∙ get_or-drop (n * i) bytes j 0

pub four_bytes : (bytes : List ℕ) (i : ℕ) → from_be_bytes w32 (chunk_of 4 bytes i) ≡ word_in bytes i
unfolding word_in
four_bytes bytes i =
    let byte : (j : ℕ) → j < 4 → slice_index (chunk_of 4 bytes i) j ≡ get_or bytes (4 * i + j) 0 = byte_in 4 bytes i in
    rw (byte 0 (omega arith), byte 1 (omega arith), byte 2 (omega arith), byte 3 (omega arith), add-zero)
