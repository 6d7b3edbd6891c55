-- `order_lines` meets its contract. The invariant: the lines of the first k orders stand together.
use Prim.Native.Nat.{◌*◌}
use Rattle.rules.specs.Lists.{joined_to}
use Rattle.text.specs.Writing.{Puts}
use Rattle.pages.specs.Steps.{line_from, fills_in}
use Rattle.pages.proofs.rounds.order_lines.Given as goal

abbrev pub invariant-loop-k : goal.invariant-loop-k
invariant-loop-k l = Puts (60 * l.k) (joined_to (line_from l.orders (fills_in l.fills)) l.k) l.initial.out l.out
