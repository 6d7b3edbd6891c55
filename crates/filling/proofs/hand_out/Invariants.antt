-- `hand_out` meets its contract. The invariant, `HandedOut`: the orders of the queue so far have their shares.
use Rattle.filling.proofs.Handing.{HandedOut}
use Rattle.filling.proofs.hand_out.Given as goal

abbrev pub invariant-loop-entry : goal.invariant-loop-entry
invariant-loop-entry l = HandedOut l.entry-items l.total.0 l.initial.fills l.fills l.ahead.0 l.entry-index
