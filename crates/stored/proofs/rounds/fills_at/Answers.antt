-- `fills_at` meets its contract: all words of a round that is there lie in the list, so its fill words can be cut out.
use mathlib.Core.Path.{refl}
use Rattle.stored.proofs.Stretches.{fills_part, no_part}
use Rattle.stored.proofs.rounds.fills_at.Goals as goal

pub returns-in-Some : goal.returns-in-Some
returns-in-Some c =
    fills_part c.args.words _ c.args.n c.args.r (rw c.in-Some.is at c.round_place.ensures) refl refl refl

pub returns-in-None : goal.returns-in-None
returns-in-None c =
    no_part c.args.words _ c.args.n c.args.r (rw c.in-None.is at c.round_place.ensures) refl refl refl
