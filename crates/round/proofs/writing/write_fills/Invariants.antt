-- `write_fills` meets its contract. The invariant, `Painted`: the first k words are those of the fills, the others as they were.
use Rattle.lines.specs.Pieces.{pieces_of}
use Rattle.rules.specs.Words.{word}
use Rattle.rules.proofs.Painting.{Painted}
use Rattle.round.proofs.writing.write_fills.Given as goal

abbrev pub invariant-loop-k : goal.invariant-loop-k
invariant-loop-k l = Painted (λ j. word 14 (pieces_of l.fills j)) l.initial.out l.out l.k
