-- `write_text` meets its contract: bytes that do not fit are refused; the words of those that fit have room, and so has what the opening
-- of any sheet writes.
use mathlib.Core.Path.{refl, sym}
use native.Mathlib.Omega.{arith}
use lib.ListN.{length-take}
use Rattle.auction.proofs.Spaces.{written_within}
use Rattle.rules.specs.Listing.{printed_answer}
use Rattle.text.proofs.Program.{input_refused, input_accepted, whole_words, few_words, opened_answer}
use Rattle.text.proofs.Writing.{◌within◌}
use Rattle.text.proofs.write_text.Goals as goal

pub returns-then-not-input_fits : goal.returns-then-not-input_fits
unfolding printed_answer
returns-then-not-input_fits c = rw (input_refused _ (sym c.if-not-input_fits.ensures)) (c.write_refusal.ensures within omega arith)

pub slice_bounds-words-end : goal.slice_bounds-words-end
slice_bounds-words-end c = few_words _ (sym c.if-not-input_fits.ensures)

pub slice_bounds-words-end-2 : goal.slice_bounds-words-end-2
slice_bounds-words-end-2 c = simp length-take (omega (arith, few_words _ (sym c.if-not-input_fits.ensures)))

pub read_words-requires : goal.read_words-requires
read_words-requires c = let fits = sym c.if-not-input_fits.ensures in
    simp length-take (omega (arith, whole_words _ fits, few_words _ fits))

pub write_answer-requires : goal.write_answer-requires
write_answer-requires c = let opened = c.opening-answer in
    (c.requires, omega (arith, opened.auto.space), written_within opened.result opened.ensures.writes)

pub returns : goal.returns
returns c =
    rw (input_accepted _ (sym c.if-not-input_fits.ensures))
    (rw (opened_answer c.read_words.ensures refl c.opening-answer.ensures.writes.answers) at c.write_answer.ensures)
