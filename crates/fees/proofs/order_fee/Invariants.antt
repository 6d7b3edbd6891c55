-- `order_fee` meets its contract. The invariant, `Charged`: what was added up is the fee over the rounds so far, and the words of the others
-- are left.
use lib.ListN.{length}
use Rattle.std.specs.Slice.Iter.{chunks_exact_rest, chunks_exact_size}
use Rattle.fees.proofs.Charging.{Charged}
use Rattle.fees.proofs.order_fee.Given as goal

abbrev pub invariant-loop-round : goal.invariant-loop-round
invariant-loop-round l = Charged l.tariff l.count l.words l.order (length l.yielded) (chunks_exact_rest l.round-iterator) (chunks_exact_size l.round-iterator) l.fee
