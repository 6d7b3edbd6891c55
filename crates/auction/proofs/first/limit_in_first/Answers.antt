-- `limit_in_first` meets its contract: a number that no order has and an order that is no Stepper are refused, and a Stepper stands where its
-- side's line says.
use Rattle.auction.proofs.FirstRound.{has_no_order, has_its_order, order_placed, no_such_order, no_stepper, stepper_stands}
use mathlib.Core.Bool.{not}
use mathlib.Core.Path.{sym, ap, ◌∙◌}
use native.Mathlib.Omega.{arith}
use Rattle.auction.proofs.first.limit_in_first.Goals as goal

pub returns-then-not-has_order : goal.returns-then-not-has_order
returns-then-not-has_order c = λ ws a. no_such_order a _ (has_no_order c.has_order.ensures (ap not c.if-not-has_order.true))

pub offset_bounds-sheet-order : goal.offset_bounds-sheet-order
offset_bounds-sheet-order c = omega (arith, order_placed c.requires c.args.order c.has_order.ensures (ap not c.if-not-has_order.false))

pub bounds-sheet-order : goal.bounds-sheet-order
bounds-sheet-order c = omega (arith, order_placed c.requires c.args.order c.has_order.ensures (ap not c.if-not-has_order.false))

pub returns-then-not-is_stepper : goal.returns-then-not-is_stepper
returns-then-not-is_stepper c = λ ws a.
    no_stepper a _ (has_its_order c.has_order.ensures (ap not c.if-not-has_order.false))
    (sym c.is_stepper.ensures ∙ c.if-not-is_stepper.true)

pub returns : goal.returns
returns c = λ ws a.
    stepper_stands a _ (has_its_order c.has_order.ensures (ap not c.if-not-has_order.false)) (sym c.is_stepper.ensures ∙ c.if-not-is_stepper.false)
    (c.place_of_order-place.ensures _ _ (c.first_line-line.ensures ws a)) c.price_at.ensures
