-- `read_sheet` meets its contract: a refused heading refuses the sheet, one that passes leaves all to the orders.
use borrow.Author.Rules.{rules}
use Rattle.sheet.proofs.Laws.{refused_heading}
use Rattle.sheet.proofs.read_sheet.Goals as goal

pub returns-in_err-heading : goal.returns-in_err-heading
returns-in_err-heading c = search (rules, refused_heading)
