use mathlib.Core.Path.{◌≡◌, refl, ap, ◌∙◌}
use Prim.Native.Nat.{◌+◌, ◌*◌, ◌<◌}
use native.Mathlib.Numerals.{add-one}
use native.Mathlib.Omega.{arith}
use lib.Dec.{ltb}
use lib.ListN.{length-take}
use Rattle.rules.specs.Pages.{digit_on}
use Rattle.text.proofs.Reading.{number_to, front_place, digit_read, digit_fits, number_fits, eight_digits}
use Rattle.text.proofs.listing.word_on.Goals as goal
use Rattle.text.proofs.listing.word_on.Goals.{In-loop-byte, After-unwrap}

-- with the next digit the number has 32 bits
room : (c : In-loop-byte) → 16 * c.loop-byte.word + digit_on c.args.line.now 0 c.loop-byte.byte-index < 0x1_0000_0000
room c = let line = c.args.line.now in
    rw c.loop-byte.invariant (number_fits line 0 c.requires c.loop-byte.byte-index (front_place line c.loop-byte-test.true c.told-line))

-- what is unwrapped is the digit of that place
digit : (c : After-unwrap) → c.unwrap.result ≡ digit_on c.args.line.now 0 c.loop-byte.byte-index
digit c = let line = c.args.line.now in
    rw c.unwrap.ensures at c.digit.ensures.value ∙ digit_read line (front_place line c.loop-byte-test.true c.told-line)

pub loop-byte-init : goal.loop-byte-init
unfolding number_to
loop-byte-init c = refl

pub unwrap-requires : goal.unwrap-requires
unwrap-requires c = let line = c.args.line.now in let place = front_place line c.loop-byte-test.true c.told-line in
    c.digit.ensures.is_digit ∙ ap (λ d. ltb d 16) (digit_read line place) ∙ digit_fits line 0 c.requires _ place

pub overflow_mul-word : goal.overflow_mul-word
overflow_mul-word c = omega (arith, room c)

pub overflow_add-word : goal.overflow_add-word
overflow_add-word c = omega (arith, digit c, room (goal.at.overflow_add-word c).In-loop-byte)

pub loop-byte-preserved : goal.loop-byte-preserved
unfolding number_to
loop-byte-preserved c = rw (add-one c.loop-byte.byte-index) (omega (arith, c.loop-byte.invariant, digit c))

pub returns : goal.returns
returns c = let all : c.loop-byte.byte-index ≡ 8 = omega (arith, simp length-take at c.loop-byte-test.false) in
    rw all at c.loop-byte.invariant ∙ eight_digits c.args.line.now 0
