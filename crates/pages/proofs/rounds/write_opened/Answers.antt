-- `write_opened` meets its contract: five texts, one behind the other. Of any sheet that reads so they are the rules' text, since its rounds
-- are those that were put.
use native.Mathlib.Omega.{arith}
use Rattle.rules.specs.Pages.{opened_text}
use Rattle.run.proofs.Accepted.{count-is}
use Rattle.text.proofs.Writing.{◌then◌, ◌within◌}
use Rattle.pages.proofs.Reported.{rounds_reported}
use Rattle.pages.proofs.rounds.write_opened.Goals as goal

pub returns : goal.returns
unfolding opened_text
returns c = let top = rw c.rounds_in.ensures at c.head.ensures in
    let text = top then c.rounds.ensures then c.put.ensures then rw c.from.ensures at c.number.ensures then c.ending.ensures within omega arith in
    λ ws a. rw (← count-is a, ← a.headed, rounds_reported a, ← c.ending_in-ended.ensures) text
