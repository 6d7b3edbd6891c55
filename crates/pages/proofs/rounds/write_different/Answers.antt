-- `write_different` meets its contract: five texts, one behind the other, are the rules' text.
use native.Mathlib.Omega.{arith}
use Rattle.rules.specs.Pages.{different_text}
use Rattle.text.proofs.Writing.{◌then◌, ◌within◌}
use Rattle.pages.proofs.rounds.write_different.Goals as goal

pub returns : goal.returns
unfolding different_text
returns c = c.put.ensures then c.number.ensures then c.put-2.ensures then c.number-2.ensures then c.put-3.ensures within omega arith
