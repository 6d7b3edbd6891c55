-- `write_round` meets its contract: four stores, then the part from the fifth word on is lent for the fills.
use mathlib.Core.Path.{◌∙◌}
use native.Mathlib.Omega.{arith}
use lib.ListN.{length-set, length-take, length-drop}
use Rattle.rules.proofs.Tests.{tests}
use Rattle.rules.specs.Opening.{round_words}
use Rattle.round.proofs.Written.{round_written, fills_long, fills_fit, fills_part}
use Rattle.round.proofs.writing.write_round.Goals as goal

pub write_fills-requires : goal.write_fills-requires
write_fills-requires c =
    let few : _ = fills_long c.args.count c.args.round.now (search tests) c.requires.0 in (
      rw few (simp (length-take, length-drop, length-set) (omega (arith, c.requires.1))),
      rw few (fills_fit c.args.count c.args.round.now c.requires.2),
    )

pub returns : goal.returns
unfolding round_words
returns c =
    let few : _ = fills_long c.args.count c.args.round.now (search tests) c.requires.0 in
    rw (← c.word.ensures, ← c.word-2.ensures, ← c.word-3.ensures, ← c.word-4.ensures)
    (round_written c.args.out.now c.word.result c.word-2.result c.word-3.result c.word-4.result
    (omega (arith, c.requires.1)) (c.write_fills.ensures ∙ rw few (fills_part c.args.count c.args.round.now)))
