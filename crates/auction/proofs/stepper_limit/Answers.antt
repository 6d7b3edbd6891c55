-- `stepper_limit` meets its contract: a refused sheet refuses the call, and the rest is promised of every accepted one.
use Rattle.std.proofs.Common.{rules}
use Rattle.auction.proofs.FirstRound.{limit_refused}
use Rattle.auction.proofs.stepper_limit.Goals as goal

pub limit_in_first-requires : goal.limit_in_first-requires
limit_in_first-requires c = record { words = c.args.words.now; accepted = c.in_ok-read_sheet.ensures }

pub returns-in_err-read_sheet : goal.returns-in_err-read_sheet
returns-in_err-read_sheet c = search (rules, limit_refused)

pub returns : goal.returns
returns c = c.limit_in_first.ensures _ c.in_ok-read_sheet.ensures
