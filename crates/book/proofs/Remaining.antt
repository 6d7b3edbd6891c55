-- What remains of each order, in its place.
use mathlib.Core.List.{List}
use mathlib.Core.Path.{◌≡◌, ap, ◌∙◌}
use Prim.Native.Nat.{ℕ, ◌<◌}
use lib.ListN.{get_or, take, get_or-map}
use lib.Seq.{get_or-take}
use Rattle.book.specs.Filed.{remaining_in}
use Rattle.lines.specs.Pieces.{pieces_of}
use Rattle.rules.specs.declared.Heading.{Heading}
use Rattle.rules.specs.declared.Pieces.{Pieces}

pub remaining_at : (h : Heading) (places : List Pieces) (k : ℕ) → k < h.count → get_or (remaining_in h places) k 0 ≡ pieces_of places k
unfolding remaining_in
remaining_at h places k l =
    get_or-map (λ (m : Pieces). m.0) (take h.count places) k (record { 0 = 0 })
    ∙ ap (λ (m : Pieces). m.0) (get_or-take h.count places k _ l)
