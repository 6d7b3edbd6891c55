-- `follow` meets its contract. The invariant, `Following`: the clock is the one to which the words before this one led from
-- the first clock on.
use Rattle.waiting.proofs.Laws.{Following}
use Rattle.waiting.proofs.follow.Given as goal

abbrev pub invariant-loop-i : goal.invariant-loop-i
invariant-loop-i l = Following l.initial.running.clock l.words l.running.clock l.i-counter
