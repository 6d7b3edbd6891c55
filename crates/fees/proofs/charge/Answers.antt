use Rattle.std.proofs.Common.{rules}
use mathlib.Core.Path.{◌≡◌}
use native.Mathlib.Omega.{arith}
use lib.ListN.{length, take}
use Rattle.std.proofs.lemmas.List.{length-take}
use Rattle.rules.proofs.Painting.{painted_none, painted_more, painted_all}
use Rattle.fees.specs.Trades.{fees_in}
use Rattle.fees.proofs.charge.Goals as goal

pub loop-order-init : goal.loop-order-init
loop-order-init c = painted_none _ _

pub loop-order-preserved : goal.loop-order-preserved
loop-order-preserved c = painted_more c.loop-order.invariant 0 c.loop-order-test.true (search rules)

pub returns : goal.returns
unfolding fees_in
returns c =
    let places : length (take c.args.count c.args.fees.now) ≡ c.args.count = omega (arith, length-take c.args.count c.args.fees.now, c.requires.1) in
    rw (painted_all c.loop-order.invariant places (omega (arith, places, c.loop-order-test.false)))
