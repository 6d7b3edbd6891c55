-- `situation` meets its contract: each arm puts the rules' text, and none is longer than 60 bytes.
use native.Mathlib.Omega.{arith}
use borrow.Author.Tests.{ne_eqb}
use Rattle.rules.specs.Pages.{situation_means}
use Rattle.text.proofs.Writing.{◌within◌}
use Rattle.pages.proofs.rounds.situation.Goals as goal

pub returns-in-0 : goal.returns-in-0
unfolding situation_means
returns-in-0 c = rw c.in-0.is (c.put.ensures within omega arith)

pub returns-in-1 : goal.returns-in-1
unfolding situation_means
returns-in-1 c = rw c.in-1.is (c.put-in-1.ensures within omega arith)

pub returns-in-2 : goal.returns-in-2
unfolding situation_means
returns-in-2 c = rw c.in-2.is (c.put-in-2.ensures within omega arith)

pub returns-in-3 : goal.returns-in-3
unfolding situation_means
returns-in-3 c = rw c.in-3.is (c.put-in-3.ensures within omega arith)

pub returns-in_default : goal.returns-in_default
unfolding situation_means
returns-in_default c = let s = c.args.s in
    rw (ne_eqb s 0 (omega arith), ne_eqb s 1 (omega arith), ne_eqb s 2 (omega arith), ne_eqb s 3 (omega arith))
    (c.put-in_default.ensures within omega arith)
