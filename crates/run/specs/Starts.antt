-- What a round starts from, in the engine's 120 places, and what the run of an opening leaves in the lent space. Serves [7.4] and [7.10].
use Rattle.std.specs.Prelude.{cond, List, ◌++◌, map, ◌≡◌, ℕ, ◌-◌, ltb, length, drop}
use Rattle.lines.specs.Pieces.{pieces_of}
use Rattle.round.specs.declared.Round.{Round}
use Rattle.rules.specs.Lists.{listed}
use Rattle.rules.specs.Opening.{opening_words}
use Rattle.rules.specs.Sheet.{most_orders}
use Rattle.rules.specs.declared.Heading.{Heading}
use Rattle.rules.specs.declared.Order.{Order}
use Rattle.rules.specs.declared.Pieces.{Pieces}
use Rattle.run.specs.declared.start.Start.{Start}

-- What the first round starts from.
unfoldable pub start_of : Heading → List Order → Start
start_of heading orders = record { last = heading.last; remaining = map (λ (o : Order). o.quantity) orders }

-- What remains after a round's fills, in all places.
unfoldable pub less_fills : List Pieces → List Pieces → List Pieces
less_fills remaining fills = listed (λ k. record { 0 = pieces_of remaining k - pieces_of fills k }) most_orders

-- What the next round starts from.
unfoldable pub start_after : Start → Round → Start
start_after s r = record {
  last = cond (ltb 0 r.purchase.0) r.purchase s.last;
  remaining = less_fills s.remaining r.fills;
}

-- The words of the sheet's opening, then what the space held before; so many words are written.
pub record Ran (ws before after : List ℕ) (written : ℕ) : Type 0 where
  pub count : written ≡ length (opening_words ws)
  pub holds : after ≡ opening_words ws ++ drop written before
