-- A read that a signal cut short leaves what remains of the input.
use Rattle.std.specs.Io.KnownBytes.{Keeps}
use Rattle.host.proofs.read_some.Given as goal

abbrev pub invariant-loop : goal.invariant-loop
invariant-loop g l = Keeps (g.R.Read.remaining l.fn.input) (g.R.Read.remaining l.input)
