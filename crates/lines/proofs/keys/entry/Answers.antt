-- `entry` meets its contract: the definition's formula, in which a place below the most and an amount have room in 64 bits.
use Rattle.std.proofs.Common.{rules}
use Rattle.lines.specs.Keys.{entry_at}
use Rattle.lines.proofs.keys.entry.Goals as goal

pub returns : goal.returns
unfolding entry_at
returns c = search rules
