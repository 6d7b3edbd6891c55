-- The trades that the words of an opening say are small: an order gets no more than its quantity over all rounds, so no more in one, and a
-- purchase price is in the band or 0.
use mathlib.Core.List.{List}
use Prim.Native.Nat.{ℕ, suc, ◌≤◌, ◌<◌}
use native.Mathlib.Nat.{le_trans}
use native.Mathlib.Omega.{arith}
use Rattle.claims.proofs.Bounds.{purchase_le}
use Rattle.claims.proofs.Demand3Holds.{demand3_holds}
use Rattle.claims.proofs.Sums.{sum_longer}
use Rattle.rules.proofs.Accepted.{accepted_sound, sound_band}
use Rattle.rules.specs.Fills.{fill_of}
use Rattle.rules.specs.Limits.{no_order}
use Rattle.rules.specs.Lists.{sum_to}
use Rattle.rules.specs.Opening.{opening_words}
use Rattle.rules.specs.Result.{count, rounds_in, round_said, auction_in}
use Rattle.rules.specs.Sheet.{heading_of, AcceptedSheet}

-- a part is no more than the sum
part_le : (f : ℕ → ℕ) (r n : ℕ) → r < n → f r ≤ sum_to f n
unfolding sum_to
part_le f r n l = omega (arith, sum_longer f (suc r) n (omega arith))

module _ (ws : List ℕ) (accepted : AcceptedSheet ws) (r : ℕ) (l : r < rounds_in ws (opening_words ws)) where
  pub pieces_small : (k : ℕ) → k < count ws → fill_of (round_said ws (opening_words ws) r).fills k ≤ 1000000
  pieces_small k own =
      let one = part_le (λ r. fill_of (round_said ws (opening_words ws) r).fills k) r (rounds_in ws (opening_words ws)) l in
      omega (arith, one, (demand3_holds ws accepted).within k own, ((accepted_sound ws accepted).orders k no_order own).most)

  pub purchase_small : (round_said ws (opening_words ws) r).purchase ≤ 1000000
  purchase_small =
      let sheet = accepted_sound ws accepted in
      let said = round_said ws (opening_words ws) r in
      rw ((demand3_holds ws accepted).rounds r l).purchased
      (le_trans (purchase_le (heading_of ws) (auction_in said) said.total (sound_band sheet)) sheet.heading.upper.1)
