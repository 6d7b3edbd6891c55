-- Clauses 7.1–7.11 of docs/RULES.md: a round, the rounds of an opening, the result words and the space.
use Rattle.std.specs.Prelude.{Bool, ◌&&◌, cond, List, [], ◌∷◌, ◌++◌, map, ℕ, zero, suc, ◌+◌, ◌-◌, ◌*◌, leb, ltb, eqb, length, get_or, replicate}
use Rattle.rules.specs.AuctionPrice.{in_band, Auction, auction}
use Rattle.rules.specs.Fills.{fill_of, total, fills_of, purchase_price}
use Rattle.rules.specs.Limits.{standing}
use Rattle.rules.specs.Lists.{listed}
use Rattle.rules.specs.Sheet.{most_orders, heading_of, orders_of}
use Rattle.rules.specs.Words.{word}
use Rattle.rules.specs.declared.Heading.{Heading}
use Rattle.rules.specs.declared.Order.{Order}
use Rattle.rules.specs.declared.Side.TheVariants.{Buy}
use Rattle.rules.specs.declared.Standing.{Standing}

-- ---- A round

-- [7.1] What a round starts from: the last purchase price, and what remains of each order.
pub record Start : Type 0 where
  pub last : ℕ
  pub remaining : List ℕ

-- [7.1] What a round gives.
pub record Round : Type 0 where
  pub situation : ℕ
  -- the auction price
  pub price : ℕ
  -- the purchase price
  pub purchase : ℕ
  pub total : ℕ
  pub fills : List ℕ

-- [7.2] The last step of a round, by a given auction: fills, total and purchase price.
unfoldable pub settled : Heading → List Standing → Auction → Round
settled h os a = record {
  situation = a.situation;
  price = a.price;
  purchase = purchase_price h a (total Buy os (fills_of h a os));
  total = total Buy os (fills_of h a os);
  fills = fills_of h a os;
}

-- [7.2] The round of orders at their limits in force, after a last purchase price.
abbrev pub round_of : Heading → ℕ → List Standing → Round
round_of h last os = settled h os (auction h last os)

-- [7.2] A round of a sheet has three steps: the limits in force, by them the auction price, and by both the rest. How
-- limits and price are found is given.
abbrev pub round_by : (Heading → List Order → List ℕ → List Standing) → (Heading → ℕ → List Standing → Auction) → List ℕ → Start → Round
round_by limits price ws s =
    settled (heading_of ws) (limits (heading_of ws) (orders_of ws) s.remaining)
    (price (heading_of ws) s.last (limits (heading_of ws) (orders_of ws) s.remaining))

-- [7.2] The round of a sheet that starts from s: limits and price over the whole grid.
unfoldable pub round_from : List ℕ → Start → Round
round_from ws s = round_by standing auction ws s

-- [7.3] The fills in 120 places, 0 where there is no order.
abbrev pub fill_places : Round → List ℕ
fill_places r = r.fills ++ replicate (most_orders - length r.fills) 0

-- ---- The rounds

-- [7.4] The first round has the sheet's last purchase price, and all of each quantity.
unfoldable pub first_start : List ℕ → Start
first_start ws = record {
  last = (heading_of ws).last.0;
  remaining = map (λ (o : Order). o.quantity.0) (orders_of ws);
}

-- [7.4] After a round an order keeps what it did not get, and the purchase price, unless it is 0, is the last purchase price
-- from then on.
unfoldable pub after : Start → Round → Start
after s r = record {
  last = cond (ltb 0 r.purchase) r.purchase s.last;
  remaining = listed (λ k. get_or s.remaining k 0 - fill_of r.fills k) (length s.remaining);
}

-- [7.5] Another round follows where the situation is 0, the auction price is in the band and pieces traded.
unfoldable pub goes_on : Heading → Round → Bool
goes_on h r = eqb r.situation 0 && in_band h r.price && leb 1 r.total

-- [7.6] The ending after a last round: 0 in situations 1–4; in situation 0 it is 2 (waiting begins) where the auction
-- price lies outside the band, and 1 (blocked) where it does not.
unfoldable pub ending_after : Heading → Round → ℕ
ending_after h r = cond (eqb r.situation 0) (cond (in_band h r.price) 1 2) 0

-- [7.7] The rounds from a start on, where round s is the round that starts from s, and at most `more` rounds after
-- the first. An opening of n orders has at most n + 1 rounds, as each that goes on uses up an order that still had
-- pieces; so none is cut short.
unfoldable pub rounds_from : (Start → Round) → Heading → ℕ → Start → List Round
rounds_from round h zero s = round s ∷ []
rounds_from round h (suc more) s =
    round s ∷ cond (goes_on h (round s)) (rounds_from round h more (after s (round s))) []

-- ---- The result words

-- [7.8] The words of a round: of kinds 10 to 13 situation, auction price, purchase price and total, then of kind 14
-- each order's fill.
unfoldable pub round_words : Round → List ℕ
round_words r =
    word 10 r.situation ∷ word 11 r.price ∷ word 12 r.purchase ∷ word 13 r.total ∷ map (word 14) r.fills

-- [7.8] The rounds' words, each behind those of the round before.
unfoldable pub rounds_words : List Round → List ℕ
rounds_words [] = []
rounds_words (r ∷ rs) = round_words r ++ rounds_words rs

-- [7.9] The ending of an opening is that of its last round.
unfoldable pub ending_of : Heading → List Round → ℕ
ending_of h [] = 0
ending_of h (r ∷ []) = ending_after h r
ending_of h (r ∷ q ∷ rs) = ending_of h (q ∷ rs)

-- [7.9] Behind the words of all rounds stands one of kind 15: ending × 65,536 + the number of rounds.
unfoldable pub result_words : Heading → List Round → List ℕ
result_words h rs = rounds_words rs ++ (word 15 (ending_of h rs * 65536 + length rs) ∷ [])

-- [7.10] The words that the opening of an accepted sheet writes, where round s is the round that starts from s.
unfoldable pub opening_by : (Start → Round) → List ℕ → List ℕ
opening_by round ws = result_words (heading_of ws) (rounds_from round (heading_of ws) (heading_of ws).count (first_start ws))

-- [7.10] The words that the opening of an accepted sheet writes.
unfoldable pub opening_words : List ℕ → List ℕ
opening_words ws = opening_by (round_from ws) ws

-- ---- The space

-- [7.11] The words that a first round needs.
abbrev pub round_space : ℕ → ℕ
round_space n = 4 + n

-- [7.11] The words that an opening needs: for n + 1 rounds and the last word.
abbrev pub opening_space : ℕ → ℕ
opening_space n = (n + 1) * (n + 4) + 1
