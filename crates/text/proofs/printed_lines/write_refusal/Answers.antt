-- `write_refusal` meets its contract: the parts of the line, one behind the other, with the numbers of the refusal.
use Rattle.rules.specs.Listing.{refusal_line, printed_answer}
use Rattle.text.proofs.Writing.{◌then◌}
use Rattle.text.proofs.printed_lines.write_refusal.Goals as goal

pub returns : goal.returns
unfolding refusal_line printed_answer
returns c = rw (← c.number.ensures, ← c.from.ensures, ← c.place.ensures)
    (c.put.ensures then c.number-2.ensures then c.put-2.ensures then c.number-3.ensures then c.put-3.ensures)
