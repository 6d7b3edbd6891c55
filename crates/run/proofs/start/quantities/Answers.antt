use mathlib.Core.Path.{◌∙◌}
use Rattle.std.proofs.Common.{rules}
use Rattle.run.proofs.Made.{listed_made}
use Rattle.run.proofs.Places.{quantities_are}
use Rattle.run.proofs.start.quantities.Goals as goal

pub returns : goal.returns
returns c = listed_made _ _ (λ i y q l called. search rules) (record { 0 = 0 }) c.from_fn.ensures.items ∙ quantities_are c.args.sheet.now.orders (search rules)
