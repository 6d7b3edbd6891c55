use Rattle.sheet.proofs.Laws.{so_far_none, so_far_more, faulty_reading, accepted_reading}
use Rattle.sheet.proofs.orders.read_orders.Goals as goal

pub loop-i-init : goal.loop-i-init
loop-i-init c = so_far_none c.args.words.now c.requires c.no_order-orders.ensures

pub returns-in-Err : goal.returns-in-Err
returns-in-Err c = faulty_reading c.args.words.now c.loop-i.invariant c.in-Err.fault c.requires.0 c.loop-i-test.true c.in-Err.ensures

pub loop-i-preserved : goal.loop-i-preserved
loop-i-preserved c = so_far_more c.args.words.now c.loop-i.invariant c.loop-i-test.true c.in-Ok.ensures

pub returns : goal.returns
returns c = accepted_reading c.args.words.now c.loop-i.invariant c.requires c.loop-i-test.false
