-- `run_rounds` meets its contract. The invariant, `Running`, is said of every list of words that reads as this sheet; the measure is the number
-- of orders with pieces left.
use mathlib.Core.List.{List}
use Prim.Native.Nat.{ℕ}
use lib.ListN.{length}
use Rattle.claims.proofs.Rounds.{live}
use Rattle.run.proofs.Places.{rules_start}
use Rattle.run.proofs.Running.{Running, Room}
use Rattle.sheet.specs.Reading.{AcceptedAs}
use Rattle.run.proofs.run_rounds.Given as goal

abbrev pub invariant-loop-book : goal.invariant-loop-book
invariant-loop-book l = record {
  runs : (ws : List ℕ) → AcceptedAs ws l.fn.sheet → Running ws l.fn.sheet.heading l.initial.space l.space l.start l.at l.rounds;
  room : Room l.fn.sheet.heading.count (length l.initial.space) l.at l.rounds;
}

abbrev pub decreases-loop-book : goal.decreases-loop-book
decreases-loop-book l = live (rules_start l.fn.sheet.heading l.start)
