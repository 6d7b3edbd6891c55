-- `head` meets its contract: nine texts, one behind the other, are the rules' text.
use native.Mathlib.Omega.{arith}
use Rattle.rules.specs.Pages.{head_text}
use Rattle.text.proofs.Writing.{◌then◌, ◌within◌}
use Rattle.pages.proofs.rounds.head.Goals as goal

pub returns : goal.returns
unfolding head_text
returns c = let counts = c.put.ensures then c.number.ensures then c.put-2.ensures then c.number-2.ensures in
    rw (← c.from.ensures, ← c.from-2.ensures)
    (counts then c.put-3.ensures then c.number-3.ensures then c.put-4.ensures then c.number-4.ensures then c.put-5.ensures within omega arith)
