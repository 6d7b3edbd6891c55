-- `lowered` meets its contract. The invariant, `Down`: the total is still reached at order i, up to which so many pieces stand.
use Rattle.filling.proofs.Reaching.{Down}
use Rattle.filling.proofs.totals.Reached.lowered.Given as goal

abbrev pub invariant-loop-i : goal.invariant-loop-i
invariant-loop-i l = Down l.queue l.fn.self.orders l.total.0 l.i l.upto.0
