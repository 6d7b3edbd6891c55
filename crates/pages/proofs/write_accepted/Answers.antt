-- `write_accepted` meets its contract: a text that fits has whole lines, at most 15,005.
use mathlib.Core.Path.{sym}
use native.Mathlib.Omega.{arith}
use lib.ListN.{length-take}
use Rattle.text.proofs.Writing.{◌within◌}
use Rattle.pages.proofs.Archiving.{whole_lines, few_lines}
use Rattle.pages.proofs.write_accepted.Goals as goal

pub returns-then-not-listing_fits : goal.returns-then-not-listing_fits
returns-then-not-listing_fits c = rw (← c.if-not-listing_fits.ensures) (c.write_no_listing.ensures within omega arith)

pub slice_bounds-stored-end : goal.slice_bounds-stored-end
slice_bounds-stored-end c = few_lines _ (sym c.if-not-listing_fits.ensures)

pub slice_bounds-stored-end-2 : goal.slice_bounds-stored-end-2
slice_bounds-stored-end-2 c = simp length-take (omega (arith, few_lines _ (sym c.if-not-listing_fits.ensures)))

pub read_result-requires : goal.read_result-requires
read_result-requires c = let fits = sym c.if-not-listing_fits.ensures in
    (simp length-take (omega (arith, whole_lines _ fits, few_lines _ fits)), fits)

pub returns : goal.returns
returns c = rw (← c.if-not-listing_fits.ensures) (rw c.read_result.ensures at c.write_stored.ensures)
