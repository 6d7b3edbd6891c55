-- `price` meets its contract: six texts, one behind the other, are the rules' text.
use native.Mathlib.Omega.{arith}
use Rattle.rules.specs.Pages.{price_text}
use Rattle.text.proofs.Writing.{◌then◌, ◌within◌}
use Rattle.pages.proofs.rounds.price.Goals as goal

pub returns : goal.returns
unfolding price_text
returns c = rw (← c.from-tens.ensures)
    (c.number.ensures then c.put.ensures then c.number-2.ensures then c.put-2.ensures then c.number-3.ensures then c.put-3.ensures within omega arith)
