-- `opening_of` meets its contract: a space with too few words is refused, and otherwise the run writes the words of the opening.
use Rattle.auction.proofs.WholeOpening.{opening_too_small, opening_written}
use Rattle.run.proofs.Accepted.{few_of_sheet}
use Rattle.auction.proofs.whole.opening_of.Goals as goal

pub space_needed-requires : goal.space_needed-requires
space_needed-requires c = few_of_sheet c.requires

pub returns-then-space-space_needed : goal.returns-then-space-space_needed
returns-then-space-space_needed c = λ ws a. opening_too_small a c.space_needed.ensures c.if-space-space_needed.true

pub run_rounds-requires : goal.run_rounds-requires
run_rounds-requires c = (c.requires, rw c.space_needed.ensures at c.if-space-space_needed.false)

pub returns : goal.returns
returns c = λ ws a.
    opening_written a c.space_needed.ensures c.if-space-space_needed.false (c.run_rounds.ensures ws a)
