-- `write_answer` meets its contract: the words of an answer are the first of the space, which has as many.
use native.Mathlib.Omega.{arith}
use lib.ListN.{length-take}
use Rattle.rules.proofs.Lists.{first_taken}
use Rattle.rules.specs.Listing.{printed_answer}
use Rattle.text.proofs.Writing.{◌within◌}
use Rattle.text.proofs.write_answer.Goals as goal

pub returns-in-Ok : goal.returns-in-Ok
unfolding printed_answer
returns-in-Ok c = let few = rw c.in-Ok.is at c.requires.2 in
    rw (c.in-Ok.is, first_taken c.args.space.now _ few) (c.write_words.ensures within simp length-take (omega arith))
