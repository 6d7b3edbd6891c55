-- `summary` meets its contract: ten texts, one behind the other, are the rules' text.
use native.Mathlib.Omega.{arith}
use Rattle.rules.specs.Pages.{summary_text}
use Rattle.text.proofs.Writing.{◌then◌, ◌within◌}
use Rattle.pages.proofs.rounds.summary.Goals as goal

pub returns : goal.returns
unfolding summary_text
returns c =
    let numbers = c.put.ensures then c.number.ensures then c.put-2.ensures then rw c.from.ensures at c.number-2.ensures in
    let prices = numbers then c.situation.ensures then c.put-3.ensures then c.price.ensures then c.purchase.ensures in
    rw (← c.from-2.ensures) (prices then c.put-4.ensures then c.number-3.ensures then c.put-5.ensures within omega arith)
