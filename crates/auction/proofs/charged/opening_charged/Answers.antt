-- `opening_charged` meets its contract: a tariff that does not stand, a list with too few places and a space with too few words refuse the call
-- before anything is written, and otherwise the fees are those on the words that the opening wrote.
use mathlib.Core.Path.{◌≡◌, sym, ◌∙◌}
use native.Mathlib.Omega.{arith}
use lib.ListN.{length-take}
use Rattle.std.proofs.Common.{rules, Err}
use Rattle.auction.proofs.Spaces.{words_fit}
use Rattle.auction.proofs.WithFees.{tariff_refused, list_refused, space_refused, words_chargeable, fees_written}
use Rattle.auction.proofs.charged.opening_charged.Goals as goal

pub returns-then-not-tariff_stands : goal.returns-then-not-tariff_stands
returns-then-not-tariff_stands c = λ ws a. tariff_refused a (sym c.tariff_stands.ensures ∙ c.if-not-tariff_stands.true)

pub returns-then-fees-count : goal.returns-then-fees-count
returns-then-fees-count c = λ ws a. list_refused a (sym c.tariff_stands.ensures ∙ c.if-not-tariff_stands.false) c.if-fees-count.true

pub slice_bounds-charge-end : goal.slice_bounds-charge-end
slice_bounds-charge-end c = words_fit _ (c.in_ok-written.ensures _ c.requires.accepted)

pub slice_bounds-charge-end-2 : goal.slice_bounds-charge-end-2
slice_bounds-charge-end-2 c = simp length-take (omega (arith, words_fit _ (c.in_ok-written.ensures _ c.requires.accepted)))

pub charge-requires : goal.charge-requires
charge-requires c = (
  words_chargeable c.requires.accepted _ (sym c.tariff_stands.ensures ∙ c.if-not-tariff_stands.false) _ (c.in_ok-written.ensures _ c.requires.accepted),
  c.if-fees-count.false,
)

pub returns-in_err-written : goal.returns-in_err-written
returns-in_err-written c = λ ws a.
    let gone : c.from_residual.result ≡ Err c.in_err-written.field-0.0 = search rules in
    rw gone (space_refused a _ (sym c.tariff_stands.ensures ∙ c.if-not-tariff_stands.false) (c.in_err-written.ensures ws a) _ c.if-fees-count.false)

pub returns : goal.returns
returns c = λ ws a.
    fees_written a _ (sym c.tariff_stands.ensures ∙ c.if-not-tariff_stands.false) _ (c.in_ok-written.ensures ws a) _ c.if-fees-count.false c.charge.ensures
