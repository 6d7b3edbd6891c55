-- `rounds` meets its contract. The invariant: the first r rounds stand together.
use Prim.Native.Nat.{◌*◌}
use Rattle.rules.specs.Lists.{joined_to}
use Rattle.text.specs.Writing.{Puts}
use Rattle.pages.specs.Steps.{round_from}
use Rattle.pages.proofs.rounds.rounds.Given as goal

abbrev pub invariant-loop-r : goal.invariant-loop-r
invariant-loop-r l = Puts (7600 * l.r) (joined_to (round_from l.sheet.heading.count l.sheet.orders l.stored) l.r) l.initial.out l.out
