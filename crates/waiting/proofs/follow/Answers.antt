use native.Mathlib.Omega.{arith}
use Rattle.waiting.proofs.Laws.{following_word, following_all}
use Rattle.waiting.proofs.follow.Goals as goal

pub returns-in_err-running : goal.returns-in_err-running
returns-in_err-running c =
    let led = following_word c.loop-i.invariant c.loop-i-test.true _ (rw c.word_of.ensures at c.after_word.ensures) in
    grind arith

pub loop-i-preserved : goal.loop-i-preserved
loop-i-preserved c =
    let led = following_word c.loop-i.invariant c.loop-i-test.true _ (rw c.word_of.ensures at c.after_word.ensures) in
    grind arith

pub returns : goal.returns
returns c = following_all c.loop-i.invariant c.loop-i-test.false
