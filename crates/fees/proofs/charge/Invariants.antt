-- `charge` meets its contract. The invariant, `Painted`: the first places hold what the first orders pay, the others what they held.
use Prim.Native.Nat.{◌+◌, ◌/◌}
use lib.ListN.{length}
use Rattle.rules.proofs.Painting.{Painted}
use Rattle.rules.specs.Fees.{order_fee}
use Rattle.fees.specs.Trades.{trade_in}
use Rattle.fees.proofs.charge.Given as goal

abbrev pub invariant-loop-order : goal.invariant-loop-order
invariant-loop-order l = Painted (λ k. order_fee l.tariff (trade_in l.count l.words k) (length l.words / (l.count + 4))) l.initial.fee-items l.fee-items l.order
