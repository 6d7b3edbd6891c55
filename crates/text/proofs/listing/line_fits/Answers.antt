use mathlib.Core.Bool.{Bool, ◌&&◌}
use mathlib.Core.Path.{◌≡◌, refl, ap, ◌∙◌}
use native.Mathlib.Numerals.{add-one}
use native.Mathlib.Omega.{arith}
use lib.Dec.{ltb, eqb}
use lib.ListN.{get_or, length-take}
use Rattle.rules.specs.Lists.{every_to}
use Rattle.rules.specs.Pages.{digit_on, line_fits}
use Rattle.text.proofs.Reading.{front_place, digit_read}
use Rattle.text.proofs.listing.line_fits.Goals as goal
use Rattle.text.proofs.listing.line_fits.Goals.{After-is_digit-fits}

-- what is tested is the digit of that place
tested : (c : After-is_digit-fits) → c.is_digit-fits.result ≡ ltb (digit_on c.args.line.now 0 c.loop-byte.byte-index) 16
tested c = let line = c.args.line.now in
    c.is_digit-fits.ensures
    ∙ ap (λ d. ltb d 16) (digit_read line (front_place line c.loop-byte-test.true c.told-line))

pub loop-byte-init : goal.loop-byte-init
unfolding every_to
loop-byte-init c = refl

pub loop-byte-preserved : goal.loop-byte-preserved
unfolding every_to
loop-byte-preserved c = rw (add-one c.loop-byte.byte-index, c.loop-byte.invariant, tested c) refl

pub returns : goal.returns
unfolding line_fits
returns c = let all : c.loop-byte.byte-index ≡ 8 = omega (arith, simp length-take at c.loop-byte-test.false) in
    ap (λ (digits : Bool). digits && eqb (get_or c.args.line.now 8 0) 10) (rw all at c.loop-byte.invariant)
