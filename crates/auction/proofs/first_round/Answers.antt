-- `first_round` meets its contract: a refused sheet refuses the call; else the answer and the space are those of the rules. What is claimed of
-- them follows.
use Rattle.std.proofs.Common.{rules}
use Rattle.claims.proofs.CallsHold.{first_round_holds}
use Rattle.auction.proofs.FirstWritten.{round_refused}
use Rattle.auction.proofs.first_round.Goals as goal

pub round_in_first-requires : goal.round_in_first-requires
round_in_first-requires c = record { words = c.args.words.now; accepted = c.in_ok-read_sheet.ensures }

pub returns-in_err-read_sheet : goal.returns-in_err-read_sheet
returns-in_err-read_sheet c = search (rules, first_round_holds, round_refused)

pub returns : goal.returns
returns c = first_round_holds (c.round_in_first.ensures _ c.in_ok-read_sheet.ensures)
