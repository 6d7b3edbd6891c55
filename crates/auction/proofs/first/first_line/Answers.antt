-- `first_line` meets its contract: the line of either side is made from its line in the book, and what remains of each order is its quantity.
use mathlib.Core.List.{List}
use mathlib.Core.Path.{◌≡◌}
use Prim.Native.Nat.{ℕ}
use Rattle.auction.proofs.FirstRound.{first_ranged, first_line}
use Rattle.book.specs.Book.{BookLine, BookOf, line_of}
use Rattle.book.specs.declared.Book.{Book}
use Rattle.rules.specs.declared.Heading.{Heading}
use Rattle.rules.specs.declared.Order.{Order}
use Rattle.rules.specs.declared.Side.{Side}
use Rattle.rules.specs.declared.Side.TheVariants.{Buy, Sell}
use Rattle.auction.proofs.first.first_line.Goals as goal

side_line : {h : Heading} {orders : List Order} {b : Book} → BookOf h orders b → (s : Side) {line : List ℕ} → line ≡ line_of s b → BookLine h orders s line
side_line book Buy e = rw e book.buy
side_line book Sell e = rw e book.sell

pub returns : goal.returns
returns c = λ ws a.
    first_line a c.quantities.ensures
    (c.line_in_force.ensures _ (side_line c.book_of-book.ensures c.args.side c.side.ensures) (first_ranged a c.quantities.ensures))
