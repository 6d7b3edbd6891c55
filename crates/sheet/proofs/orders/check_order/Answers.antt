-- `check_order` meets its contract: each test is a row of the order's table, in the same order.
use mathlib.Core.Bool.{Bool, not}
use mathlib.Core.Path.{◌≡◌, sym, ◌∙◌}
use Rattle.rules.specs.Sheet.{order_kinds, disposition_in, limit_in, terms_allowed, quantity_allowed, ignored_allowed, order_checks}
use Rattle.rules.proofs.Downwards.{here, there, passed, nothing_left, says_nothing, says_refused}
use Rattle.sheet.specs.declared.orders.OrderWords.{OrderWords}
use Rattle.sheet.proofs.orders.check_order.Goals as goal
use Rattle.sheet.proofs.orders.check_order.Goals.{After-wrong_ignored-ignored}

-- the rows of the table by what the tests said
module _ (c : After-wrong_ignored-ignored) where
  abbrev order : OrderWords
  order = c.args.three

  kinds : {r : Bool} → c.wrong_kinds-kinds.result ≡ r
      → not (order_kinds order.first order.second order.third) ≡ r
  kinds out = sym c.wrong_kinds-kinds.ensures ∙ out

  terms : {r : Bool} → c.wrong_terms-terms.result ≡ r
      → not (terms_allowed (disposition_in order.first) (limit_in order.first)) ≡ r
  terms out = sym c.wrong_terms-terms.ensures ∙ out

  quantity : {r : Bool} → c.wrong_quantity-quantity.result ≡ r → not (quantity_allowed order.second.value) ≡ r
  quantity out = sym c.wrong_quantity-quantity.ensures ∙ out

  ignored : {r : Bool} → c.wrong_ignored-ignored.result ≡ r → not (ignored_allowed (disposition_in order.first) order.third.value) ≡ r
  ignored out = sym c.wrong_ignored-ignored.ensures ∙ out

pub returns-then-kinds : goal.returns-then-kinds
unfolding order_checks
returns-then-kinds c k = says_refused _ (here (kinds (goal.at.returns-then-kinds c).After-wrong_ignored-ignored c.if-kinds.true))

pub returns-then-terms : goal.returns-then-terms
unfolding order_checks
returns-then-terms c k =
    let at = (goal.at.returns-then-terms c).After-wrong_ignored-ignored in
    says_refused _ (there (kinds at c.if-kinds.false) (here (terms at c.if-terms.true)))

pub returns-then-quantity : goal.returns-then-quantity
unfolding order_checks
returns-then-quantity c k =
    let at = (goal.at.returns-then-quantity c).After-wrong_ignored-ignored in
    says_refused _
    (there (kinds at c.if-kinds.false)
    (there (terms at c.if-terms.false)
    (here (quantity at c.if-quantity.true))))

pub returns-then-ignored : goal.returns-then-ignored
unfolding order_checks
returns-then-ignored c k =
    let at = (goal.at.returns-then-ignored c).After-wrong_ignored-ignored in
    says_refused _
    (there (kinds at c.if-kinds.false)
    (there (terms at c.if-terms.false)
    (there (quantity at c.if-quantity.false)
    (here (ignored at c.if-ignored.true)))))

pub returns : goal.returns
unfolding order_checks
returns c k =
    let at = (goal.at.returns c).After-wrong_ignored-ignored in
    says_nothing _
    (passed (kinds at c.if-kinds.false)
    (passed (terms at c.if-terms.false)
    (passed (quantity at c.if-quantity.false)
    (passed (ignored at c.if-ignored.false) nothing_left))))
