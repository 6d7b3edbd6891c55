-- A round as the engine hands it back, and the rules' round that it stands for. Serves [7.2] and [7.3].
use Rattle.std.specs.Prelude.{map, ℕ}
use Rattle.lines.specs.Pieces.{pieces_of}
use Rattle.rules.specs.Lists.{listed}
use Rattle.rules.specs.Opening.{Round as RulesRound, fill_places}
use Rattle.rules.specs.declared.Pieces.{Pieces}
use Rattle.round.specs.declared.Round.{Round}

-- The round with all its fill places.
abbrev pub handed_back : Round → RulesRound
handed_back r = record {
  situation = r.situation;
  price = r.price.0;
  purchase = r.purchase.0;
  total = r.total.0;
  fills = map (λ (m : Pieces). m.0) r.fills;
}

-- A round of the rules with all 120 fill places, those from n on being 0.
abbrev pub with_places : RulesRound → RulesRound
with_places r = record {
  situation = r.situation;
  price = r.price;
  purchase = r.purchase;
  total = r.total;
  fills = fill_places r;
}

-- The round with the fills of its n orders.
abbrev pub of_orders : ℕ → Round → RulesRound
of_orders n r = record {
  situation = r.situation;
  price = r.price.0;
  purchase = r.purchase.0;
  total = r.total.0;
  fills = listed (pieces_of r.fills) n;
}
