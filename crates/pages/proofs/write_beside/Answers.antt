-- `write_beside` meets its contract: what the reading says of the sheet is what its check says.
use native.Mathlib.Omega.{arith}
use Rattle.rules.specs.Listing.{printed_answer}
use Rattle.text.proofs.Writing.{◌within◌}
use Rattle.pages.proofs.write_beside.Goals as goal

pub returns-in-Err : goal.returns-in-Err
unfolding printed_answer
returns-in-Err c = rw c.in-Err.ensures (c.write_refusal.ensures within omega arith)
