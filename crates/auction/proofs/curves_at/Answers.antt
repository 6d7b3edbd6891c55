-- `curves_at` meets its contract: a refused sheet refuses the call, and the rest is promised of every accepted one.
use Rattle.std.proofs.Common.{rules}
use Rattle.auction.proofs.FirstRound.{curves_refused}
use Rattle.auction.proofs.curves_at.Goals as goal

pub returns-in_err-read_sheet : goal.returns-in_err-read_sheet
returns-in_err-read_sheet c = search (rules, curves_refused)

pub returns : goal.returns
returns c = c.curves_in_first.ensures _ c.in_ok-read_sheet.ensures
