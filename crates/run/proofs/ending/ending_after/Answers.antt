-- `ending_after` meets its contract, by its tests.
use borrow.Author.Tests.{eq-eqb, ne_eqb}
use Rattle.rules.specs.Opening.{ending_after}
use Rattle.run.proofs.ending.ending_after.Goals as goal

pub returns-then-round : goal.returns-then-round
unfolding ending_after
returns-then-round c = rw (ne_eqb c.args.round.now.situation 0 c.if-round.true)

pub returns-then-in_band : goal.returns-then-in_band
unfolding ending_after
returns-then-in_band c = rw (eq-eqb c.args.round.now.situation 0 c.if-round.false, ← c.in_band.ensures, c.if-in_band.true)

pub returns-else-in_band : goal.returns-else-in_band
unfolding ending_after
returns-else-in_band c = rw (eq-eqb c.args.round.now.situation 0 c.if-round.false, ← c.in_band.ensures, c.if-in_band.false)
