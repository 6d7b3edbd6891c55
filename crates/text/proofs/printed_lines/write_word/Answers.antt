-- `write_word` meets its contract: the library's digits of a word are 8.
use native.Mathlib.Omega.{arith}
use Rattle.rules.specs.Listing.{word_line}
use Rattle.text.proofs.Figures.{hex_digits}
use Rattle.text.proofs.Writing.{◌then◌}
use Rattle.text.proofs.printed_lines.write_word.Goals as goal
use Rattle.text.proofs.printed_lines.write_word.Goals.{After-hex-count}
use mathlib.Core.Path.{◌≡◌}

eight : (c : After-hex-count) → c.hex-count.result ≡ 8
eight c = hex_digits (omega arith) (rw c.from.ensures at c.hex-count.ensures.len)

pub put-requires : goal.put-requires
put-requires c = omega (arith, eight (goal.at.put-requires c).After-hex-count)

pub put-requires-2 : goal.put-requires-2
put-requires-2 c = omega (arith, eight (goal.at.put-requires-2 c).After-hex-count)

pub returns : goal.returns
unfolding word_line
returns c = rw (c.hex-count.ensures.digits, eight (goal.at.returns c).After-hex-count, c.from.ensures) at c.put.ensures then c.put-2.ensures
