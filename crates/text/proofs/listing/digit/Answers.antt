-- `digit` meets its contract: in the two runs of digits, and below, between and above them.
use mathlib.Core.Path.{sym, ◌∙◌}
use native.Mathlib.Omega.{arith}
use borrow.Author.Tests.{lt-ltb, lt-leb}
use Rattle.rules.proofs.Tests.{tests}
use Rattle.rules.specs.Pages.{digit_value}
use Rattle.text.proofs.Reading.{figure_value, letter_value}
use Rattle.text.proofs.listing.digit.Goals as goal

pub returns-in-48-to-57 : goal.returns-in-48-to-57
returns-in-48-to-57 c = let byte = c.args.byte in
    let figure = figure_value byte (omega arith) (omega arith) in
    record { is_digit = sym (lt-ltb (digit_value byte) 16 (omega (arith, figure))); value = c.from.ensures ∙ figure }

pub returns-in-97-to-102 : goal.returns-in-97-to-102
returns-in-97-to-102 c = let byte = c.args.byte in
    let letter = letter_value byte (omega arith) (omega arith) in
    record { is_digit = sym (lt-ltb (digit_value byte) 16 (omega (arith, letter))); value = omega (arith, letter, c.from-in-97-to-102.ensures) }

pub returns-in_default : goal.returns-in_default
unfolding digit_value
returns-in_default c = let byte = c.args.byte in record { is_digit = rw (lt-leb 48 byte (omega arith), lt-leb 97 byte (omega arith)); value = tt }

pub returns-in_default-2 : goal.returns-in_default-2
unfolding digit_value
returns-in_default-2 c = search tests

pub returns-in_default-3 : goal.returns-in_default-3
unfolding digit_value
returns-in_default-3 c = search tests
