-- `is_digit` meets its contract: a byte of either run of digits has a value below 16, and no other has.
use Rattle.text.proofs.Reading.{digit_tested}
use Rattle.text.proofs.listing.is_digit.Goals as goal

pub returns : goal.returns
returns c = digit_tested c.args.byte
