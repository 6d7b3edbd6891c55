-- `round` meets its contract: a round that is there has a page, and its fill words are as many as the orders.
use native.Mathlib.Omega.{arith}
use Rattle.text.proofs.Writing.{◌within◌}
use Rattle.pages.proofs.Telling.{page_had, fills_count_lem, round_told}
use Rattle.pages.proofs.rounds.round.Goals as goal

pub unwrap-requires : goal.unwrap-requires
unwrap-requires c = page_had _ _ _ c.requires.0 _ c.page_at.ensures

pub order_lines-requires : goal.order_lines-requires
order_lines-requires c = let few = fills_count_lem _ _ _ c.requires.0 c.fills_at.ensures.same in
    (omega (arith, few), omega (arith, few))

pub returns : goal.returns
returns c = let there = c.requires.0 in let fills = c.fills_at.ensures.same in
    round_told _ _ _ there fills c.unwrap.ensures c.page_at.ensures c.args.sheet.now.orders c.summary.ensures c.order_lines.ensures
    within omega (arith, fills_count_lem _ _ _ there fills, c.requires.1)
