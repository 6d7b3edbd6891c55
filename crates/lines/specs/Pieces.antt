-- Pieces: how many an order may have, and those of 120 places, one for each order. Serves [4.1].
use Rattle.std.specs.Prelude.{List, ℕ, get_or}
use Rattle.rules.specs.declared.Pieces.{Pieces}

-- The most pieces that an order has: what has room in 32 bits.
abbrev pub most_pieces : ℕ
most_pieces = 0xFFFF_FFFF

-- The pieces at place k.
abbrev pub pieces_of : List Pieces → ℕ → ℕ
pieces_of places k = (get_or places k (record { 0 = 0 })).0
