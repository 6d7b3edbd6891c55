-- `round_in_first` meets its contract: a space with too few words is refused, and otherwise the part lent to the writer begins the space.
use Rattle.auction.proofs.FirstWritten.{part_words, first_is, space_too_small, round_written, fits_its_words}
use Rattle.auction.proofs.FirstRound.{first_ranged}
use Rattle.sheet.specs.Reading.{AcceptedAs}
use Rattle.run.proofs.Accepted.{few_of_sheet}
use Rattle.rules.specs.Opening.{round_of, round_words}
use Rattle.rules.specs.Limits.{standing}
use Rattle.rules.proofs.Tests.{tests}
use Rattle.round.specs.HandedBack.{handed_back, with_places}
use Rattle.book.specs.Filed.{filed_in, remaining_in}
use Prim.Native.Nat.{ℕ, ◌+◌}
use mathlib.Core.Path.{◌≡◌, refl, ap, ◌∙◌}
use mathlib.Core.List.{List, ◌++◌}
use lib.ListN.{drop}
use Rattle.auction.proofs.first.round_in_first.Goals as goal
use Rattle.auction.proofs.first.round_in_first.Goals.{After-round_of-round}

given : (c : After-round_of-round) {ws : List ℕ} → AcceptedAs ws c.args.sheet.now
    → handed_back c.round_of-round.result
    ≡ with_places
    (round_of c.args.sheet.now.heading c.args.sheet.now.heading.last.0
    (standing c.args.sheet.now.heading (filed_in c.args.sheet.now.heading c.args.sheet.now.orders)
    (remaining_in c.args.sheet.now.heading c.quantities-filed.result)))
given c a = let book = c.book_of.ensures in c.round_of-round.ensures _ book.buy book.sell (first_ranged a c.quantities-filed.ensures)

pub overflow_add-size : goal.overflow_add-size
overflow_add-size c = search (tests, few_of_sheet c.requires)

pub returns-then-space-size : goal.returns-then-space-size
returns-then-space-size c = λ ws a. space_too_small a c.if-space-size.true

pub write_round-requires : goal.write_round-requires
write_round-requires c = (
  few_of_sheet c.requires,
  part_words c.args.space.now c.if-space-size.false,
  fits_its_words c.requires c.quantities-filed.ensures c.round_of-round.result (given (goal.at.write_round-requires c).After-round_of-round c.requires.accepted),
)

pub returns : goal.returns
returns c = λ ws a.
    let first = first_is a c.quantities-filed.ensures c.round_of-round.result (given (goal.at.returns c).After-round_of-round a) in
    round_written a refl c.if-space-size.false
    (ap (λ words. words ++ drop (4 + c.args.sheet.now.heading.count) c.args.space.now) (c.write_round.ensures ∙ ap round_words first))
