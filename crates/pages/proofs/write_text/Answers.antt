-- `write_text` meets its contract: bytes that do not fit are refused, and the words of those that fit have room in the space for a sheet.
use mathlib.Core.Path.{sym}
use native.Mathlib.Omega.{arith}
use lib.ListN.{length-take}
use Rattle.rules.specs.Listing.{printed_answer}
use Rattle.text.proofs.Program.{whole_words, few_words}
use Rattle.text.proofs.Writing.{◌within◌}
use Rattle.pages.proofs.Archiving.{bytes_refused, bytes_accepted}
use Rattle.pages.proofs.write_text.Goals as goal

pub returns-then-not-input_fits : goal.returns-then-not-input_fits
unfolding printed_answer
returns-then-not-input_fits c = rw (bytes_refused _ _ (sym c.if-not-input_fits.ensures)) (c.write_refusal.ensures within omega arith)

pub slice_bounds-words-end : goal.slice_bounds-words-end
slice_bounds-words-end c = few_words _ (sym c.if-not-input_fits.ensures)

pub slice_bounds-words-end-2 : goal.slice_bounds-words-end-2
slice_bounds-words-end-2 c = simp length-take (omega (arith, few_words _ (sym c.if-not-input_fits.ensures)))

pub read_words-requires : goal.read_words-requires
read_words-requires c = let fits = sym c.if-not-input_fits.ensures in
    simp length-take (omega (arith, whole_words _ fits, few_words _ fits))

pub returns : goal.returns
returns c = rw (bytes_accepted _ _ (sym c.if-not-input_fits.ensures)) (rw c.read_words.ensures at c.write_beside.ensures)
