-- `trade_at` meets its contract: it reads the two words that the definition reads.
use Prim.Native.Nat.{◌+◌}
use Rattle.std.proofs.Common.{zero-add}
use Rattle.fees.specs.Trades.{trade_at}
use Rattle.fees.proofs.trade_at.Goals as goal

pub returns : goal.returns
unfolding trade_at
returns c = rw (c.word_of-purchase.ensures, c.word_of-fill.ensures, zero-add (4 + c.args.order))
