-- `space_needed` meets its contract: of at most 120 orders the number is small.
use native.Mathlib.Omega.{arith}
use Rattle.claims.proofs.Bounds.{most_space}
use Rattle.auction.proofs.whole.space_needed.Goals as goal

pub overflow_mul-result : goal.overflow_mul-result
overflow_mul-result c = let most = most_space c.args.count c.requires in omega arith

pub overflow_add-result-3 : goal.overflow_add-result-3
overflow_add-result-3 c = let most = most_space c.args.count c.requires in omega arith
