-- `after_second` gives a sound clock where the time is up.
use mathlib.Core.Bool.{true}
use mathlib.Core.Path.{◌≡◌}
use Prim.Native.Nat.{◌+◌}
use native.Mathlib.Omega.{arith}
use Rattle.std.proofs.lemmas.Bool.{le-leb}
use Rattle.rules.specs.Waiting.{time_is_up}
use Rattle.waiting.proofs.Laws.{sound_time}
use Rattle.waiting.proofs.steps.RunningClock.after_second.Goals as goal

pub invariant_of-result : goal.invariant_of-result
unfolding time_is_up
invariant_of-result c =
    let ends = c.in_ok-clock-in-Waiting.ensures in
    let late = c.if-second-start-ge-WAITING_TIME.true in
    let up : time_is_up c.args.self.clock.phase c.args.second ≡ true =
    rw c.in-Waiting.is (le-leb (c.in-Waiting.start + 600) c.args.second (omega (arith, late))) in
    record { sound = rw ends.1 (sound_time _ _ c.requires c.if-second-clock.false up ends.0 c.args.self.sound) }
