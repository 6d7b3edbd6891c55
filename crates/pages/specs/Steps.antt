-- What the functions of this crate hand to each other. Serves [11.7]–[11.10].
use Rattle.std.specs.Prelude.{List, [], ◌++◌, map, ℕ}
use Rattle.rules.specs.Fills.{fill_of}
use Rattle.rules.specs.Limits.{filed}
use Rattle.rules.specs.Lists.{joined_to}
use Rattle.rules.specs.Opening.{Round}
use Rattle.rules.specs.Pages.{order_line, summary_text}
use Rattle.rules.specs.Result.{round_said_for}
use Rattle.rules.specs.Words.{word_of}
use Rattle.rules.specs.declared.Order.{Order}
use Rattle.rules.specs.declared.Summary.{Summary}

-- The round that a page tells of, but for its fills.
abbrev pub told : Summary → Round
told s = record {
  situation = s.situation;
  price = s.price.0;
  purchase = s.purchase.0;
  total = s.total.0;
  fills = [];
}

-- The line of the order in place k, for its fill.
abbrev pub line_from : List Order → List ℕ → ℕ → List ℕ
line_from orders fills k = order_line k (filed orders k).side (fill_of fills k)

-- The fills that some words say.
abbrev pub fills_in : List ℕ → List ℕ
fills_in words = map (λ w. (word_of w).value) words

-- Round r in the words rs of a result of n orders, which are in the first of these places.
unfoldable pub round_from : ℕ → List Order → List ℕ → ℕ → List ℕ
round_from n orders rs r = summary_text r (round_said_for n rs r) ++ joined_to (line_from orders (round_said_for n rs r).fills) n
