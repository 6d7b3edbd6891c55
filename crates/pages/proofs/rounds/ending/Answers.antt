-- `ending` meets its contract: each arm puts the rules' text, and none is longer than 90 bytes.
use native.Mathlib.Omega.{arith}
use borrow.Author.Tests.{ne_eqb}
use Rattle.rules.specs.Pages.{ending_means}
use Rattle.text.proofs.Writing.{◌within◌}
use Rattle.pages.proofs.rounds.ending.Goals as goal

pub returns-in-0 : goal.returns-in-0
unfolding ending_means
returns-in-0 c = rw c.in-0.is (c.put.ensures within omega arith)

pub returns-in-1 : goal.returns-in-1
unfolding ending_means
returns-in-1 c = rw c.in-1.is (c.put-in-1.ensures within omega arith)

pub returns-in_default : goal.returns-in_default
unfolding ending_means
returns-in_default c = let e = c.args.e in
    rw (ne_eqb e 0 (omega arith), ne_eqb e 1 (omega arith)) (c.put-in_default.ensures within omega arith)
