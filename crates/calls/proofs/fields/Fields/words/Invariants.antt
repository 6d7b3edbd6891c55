-- The words that were read fit.
use Rattle.std.proofs.Common.{◌≤◌, length}
use Rattle.calls.proofs.fields.Fields.words.Given as goal

abbrev pub invariant-loop-field : goal.invariant-loop-field
invariant-loop-field l = l.count ≤ length l.room
