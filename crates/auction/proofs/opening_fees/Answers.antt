-- `opening_fees` meets its contract: a refused sheet refuses the call, and the rest is promised of every accepted one.
use Rattle.std.proofs.Common.{rules, ◌≡◌, Err}
use Rattle.auction.proofs.WithFees.{sheet_refused}
use Rattle.auction.proofs.opening_fees.Goals as goal

pub opening_charged-requires : goal.opening_charged-requires
opening_charged-requires c = record { words = c.args.words.now; accepted = c.in_ok-read_sheet.ensures }

pub returns-in_err-read_sheet : goal.returns-in_err-read_sheet
returns-in_err-read_sheet c =
    let gone : c.from_residual.result ≡ Err c.in_err-read_sheet.field-0.0 = search rules in rw gone (sheet_refused _ c.in_err-read_sheet.ensures)

pub returns : goal.returns
returns c = c.opening_charged.ensures _ c.in_ok-read_sheet.ensures
