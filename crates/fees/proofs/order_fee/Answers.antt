use Prim.Native.Nat.{◌+◌}
use native.Mathlib.Nat.{div-le_self}
use native.Mathlib.Omega.{arith}
use lib.ListN.{length, length-append}
use Rattle.fees.proofs.Charging.{charged_none, charged_more, charged_all, rounds_few, trade_here, fees_most}
use Rattle.fees.specs.Trades.{trade_in}
use Rattle.fees.proofs.order_fee.Goals as goal

pub loop-round-init : goal.loop-round-init
loop-round-init c = rw c.into_iter-round-iterator.ensures.into_iter_gives (charged_none c.chunks_exact-round-items.ensures.rest c.chunks_exact-round-items.ensures.size)

pub fill_fee-fee-requires : goal.fill_fee-fee-requires
fill_fee-fee-requires c =
    let step = c.in-Some.ensures.steps.1 in
    let few = rounds_few c.loop-round.invariant _ _ step.0 step.1 in
    (c.requires.0.tariff, rw (c.trade_at.ensures, trade_here c.loop-round.invariant _ _ step.0 step.1 c.requires.1) (c.requires.0.trades _ _ c.requires.1 few))

pub overflow_add-fee : goal.overflow_add-fee
overflow_add-fee c =
    let step = c.in-Some.ensures.steps in
    let more = charged_more c.loop-round.invariant _ _ step.1.0 step.1.1 c.requires.1 c.trade_at.ensures step.0 c.fill_fee-fee.ensures in
    omega (
      arith,
      more.paid,
      fees_most c.args.tariff c.requires.0.tariff (trade_in c.args.count c.args.words.now c.args.order) (length c.loop-round.yielded + 1),
      rounds_few c.loop-round.invariant _ _ step.1.0 step.1.1,
      div-le_self (length c.args.words.now) (c.args.count + 4),
      c.requires.0.words,
    )

pub loop-round-preserved : goal.loop-round-preserved
loop-round-preserved c =
    let step = c.in-Some.ensures.steps in
    rw length-append (charged_more c.loop-round.invariant _ _ step.1.0 step.1.1 c.requires.1 c.trade_at.ensures step.0 c.fill_fee-fee.ensures)

pub returns : goal.returns
returns c = charged_all c.loop-round.invariant c.in-None.ensures.steps.1.0
