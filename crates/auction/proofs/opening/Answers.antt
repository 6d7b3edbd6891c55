-- `opening` meets its contract: a refused sheet refuses the call; else the answer and the space are those of the rules. What is claimed of
-- them follows.
use Rattle.std.proofs.Common.{rules}
use Rattle.claims.proofs.CallsHold.{opening_holds}
use Rattle.auction.proofs.WholeOpening.{opening_refused}
use Rattle.auction.proofs.opening.Goals as goal

pub opening_of-requires : goal.opening_of-requires
opening_of-requires c = record { words = c.args.words.now; accepted = c.in_ok-read_sheet.ensures }

pub returns-in_err-read_sheet : goal.returns-in_err-read_sheet
returns-in_err-read_sheet c = search (rules, opening_holds, opening_refused)

pub returns : goal.returns
returns c = opening_holds (c.opening_of.ensures _ c.in_ok-read_sheet.ensures)
