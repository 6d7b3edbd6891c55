-- `opens` meets its contract, by what the opening answered (`said_beside`).
use native.Mathlib.Omega.{arith}
use lib.ListN.{length}
use lib.Seq.{length-take-le}
use mathlib.Core.Path.{sym}
use Rattle.auction.proofs.Spaces.{written_within}
use Rattle.claims.specs.Fits.{Within}
use Rattle.stored.proofs.Openings.{SaidBeside, said_beside}
use Rattle.stored.proofs.opens.Goals as goal
use Rattle.stored.proofs.opens.Goals.{After-opening}

within : (c : After-opening) → Within c.opening.result (length c.opening.new.space)
within c = written_within c.opening.result c.opening.ensures.writes

said : (c : After-opening) → SaidBeside c.args.sheet.now c.args.stored.now c.opening.new.space c.opening.result
said c = said_beside c.args.sheet.now c.args.stored.now c.opening.new.space c.opening.result (within c) c.opening.ensures.writes.answers

pub returns-in_err-count : goal.returns-in_err-count
returns-in_err-count c = let told = said (goal.at.returns-in_err-count c).After-opening in grind arith

pub slice_bounds-space-end : goal.slice_bounds-space-end
slice_bounds-space-end c = let few = within (goal.at.slice_bounds-space-end c).After-opening in grind arith

pub slice_bounds-first_difference-end : goal.slice_bounds-first_difference-end
slice_bounds-first_difference-end c =
    let few = within (goal.at.slice_bounds-first_difference-end c).After-opening in
    sym (length-take-le c.in_ok-count.count c.opening.new.space (grind arith))

pub returns-in-Some : goal.returns-in-Some
returns-in-Some c = let told = said (goal.at.returns-in-Some c).After-opening in grind arith

pub returns-in-None : goal.returns-in-None
returns-in-None c = let told = said (goal.at.returns-in-None c).After-opening in grind arith
