use mathlib.Core.List.{List}
use mathlib.Core.Path.{◌≡◌, sym, ◌∙◌}
use Prim.Native.Nat.{ℕ}
use native.Mathlib.Omega.{arith}
use lib.ListN.{length-take, length-drop}
use Rattle.book.specs.Filed.{filed_in, remaining_in}
use Rattle.round.specs.HandedBack.{handed_back, with_places}
use Rattle.rules.specs.Limits.{standing}
use Rattle.rules.specs.Opening.{round_of}
use Rattle.run.proofs.Accepted.{few_of_sheet}
use Rattle.run.proofs.Running.{round_ranged, running_none, room, round_fits, with_round, running_on, fewer_left, ran}
use Rattle.sheet.specs.Reading.{AcceptedAs}
use Rattle.run.proofs.run_rounds.Goals as goal
use Rattle.run.proofs.run_rounds.Goals.{After-round_of-round}

-- what the round hands back
given : (c : After-round_of-round) {ws : List ℕ} → AcceptedAs ws c.args.sheet.now
    → handed_back c.round_of-round.result
    ≡ with_places
    (round_of c.args.sheet.now.heading c.loop-book.start.last.0
    (standing c.args.sheet.now.heading (filed_in c.args.sheet.now.heading c.args.sheet.now.orders)
    (remaining_in c.args.sheet.now.heading c.loop-book.start.remaining)))
given c a =
    let book = c.book_of-book.ensures in
    c.round_of-round.ensures _ book.buy book.sell (round_ranged a (c.loop-book.invariant.runs _ a))

pub loop-book-init : goal.loop-book-init
loop-book-init c = record {
  runs = λ ws a. rw c.first-start.ensures (running_none a _);
  room = let a = c.requires.0.accepted in room a (running_none a _) c.requires.1;
}

pub write_round-requires : goal.write_round-requires
write_round-requires c =
    let a = c.requires.0.accepted in (
      few_of_sheet c.requires.0,
      simp (length-take, length-drop) (omega arith),
      round_fits a (c.loop-book.invariant.runs _ a) c.round_of-round.result (given (goal.at.write_round-requires c).After-round_of-round a),
    )

pub returns-then-not-goes_on : goal.returns-then-not-goes_on
returns-then-not-goes_on c = λ ws a.
    let v = c.loop-book.invariant.runs ws a in
    let handed = given (goal.at.returns-then-not-goes_on c).After-round_of-round a in
    ran a v c.round_of-round.result handed (sym c.goes_on.ensures ∙ c.if-not-goes_on.true)
    (with_round a v c.round_of-round.result handed c.write_round.ensures) c.loop-book.invariant.room.ends
    (c.number-ending.ensures.0 ∙ c.ending_after.ensures) c.word.ensures

pub loop-book-smaller : goal.loop-book-smaller
loop-book-smaller c =
    let a = c.requires.0.accepted in
    rw c.after-start.ensures
    (fewer_left a (c.loop-book.invariant.runs _ a) c.round_of-round.result
    (given (goal.at.loop-book-smaller c).After-round_of-round a) (sym c.goes_on.ensures ∙ c.if-not-goes_on.false))

pub loop-book-preserved : goal.loop-book-preserved
loop-book-preserved c =
    let on = λ (ws : List ℕ) (a : AcceptedAs ws c.args.sheet.now).
    let v = c.loop-book.invariant.runs ws a in
    let handed = given (goal.at.loop-book-preserved c).After-round_of-round a in
    running_on a v c.round_of-round.result handed (sym c.goes_on.ensures ∙ c.if-not-goes_on.false)
    (with_round a v c.round_of-round.result handed c.write_round.ensures) in
    record {
      runs = λ ws a. rw c.after-start.ensures (on ws a);
      room = let a = c.requires.0.accepted in room a (on _ a) c.requires.1;
    }
