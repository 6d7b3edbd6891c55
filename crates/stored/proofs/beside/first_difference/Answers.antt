-- `first_difference` meets its contract: the first pair that differs, or else where the shorter list ends.
use mathlib.Core.Path.{◌≡◌}
use native.Mathlib.Omega.{arith}
use Rattle.std.proofs.Common.{rules, tests}
use Rattle.std.proofs.lemmas.Iterator.{YieldsList-from_slice, YieldsList-from_zip}
use Rattle.std.proofs.lemmas.Iterator.Search.{position_from_yields_List}
use Rattle.std.proofs.lemmas.Bool.Decides.{nat_tests}
use Rattle.std.specs.List.{position, zip}
use Rattle.stored.proofs.Openings.{unlike, difference_found}
use Rattle.stored.proofs.beside.first_difference.Goals as goal

pub returns : goal.returns
returns c =
    let found : c.position-unlike.result ≡ position unlike (zip c.args.a.now c.args.b.now) =
    position_from_yields_List unlike c.position-unlike.new.self _ _ c.position-unlike.ensures.ran
    (YieldsList-from_zip (YieldsList-from_slice c.args.a.now cc) (YieldsList-from_slice c.args.b.now cc))
    (λ x b q k. search (rules, tests)) in
    let whole = difference_found c.args.a.now c.args.b.now in
    grind (arith, nat_tests)
