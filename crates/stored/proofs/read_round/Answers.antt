-- `read_round` meets its contract: a view that opened reads the stored words, and what kept it shut is the answer (`round_by`).
use native.Mathlib.Omega.{arith}
use Rattle.stored.proofs.Views.{RoundBy, round_by}
use Rattle.stored.proofs.read_round.Goals as goal
use Rattle.stored.proofs.read_round.Goals.{After-open_result}

told : (c : After-open_result) → RoundBy c.args.sheet.now c.args.stored c.args.round c.open_result.result
told c = round_by c.args.sheet.now c.args.stored c.args.round c.open_result.result c.open_result.ensures

pub returns-in_err-view : goal.returns-in_err-view
returns-in_err-view c = let by = told (goal.at.returns-in_err-view c).After-open_result in grind arith

pub returns : goal.returns
returns c = let by = told (goal.at.returns c).After-open_result in grind arith
