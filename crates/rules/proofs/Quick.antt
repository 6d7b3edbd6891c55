-- The rules by the limits alone: what the rules answer, with each scan of the grid replaced by a look at the limits. It
-- computes in no time, and the law of the scans makes it equal. No rule is repeated here.
use mathlib.Core.List.{List}
use mathlib.Core.Path.{◌≡◌, ap, ◌∙◌, fun_ext}
use Prim.Native.Nat.{ℕ}
use Rattle.rules.proofs.Ends.{over_ends, scan_at_ends, limit_ends, level_ends, pieces_step, level-step}
use Rattle.rules.specs.Answers.{Answer}
use Rattle.rules.specs.AuctionPrice.{Auction, level, auction_by, auction}
use Rattle.rules.specs.Calls.{Call, first_standing, answer_by, answer}
use Rattle.rules.specs.Grid.{Scan}
use Rattle.rules.specs.Limits.{entered, rival_pieces, standing_by, standing}
use Rattle.rules.specs.Opening.{Start, Round, round_by, round_from, first_start}
use Rattle.rules.specs.Sheet.{heading_of, orders_of}
use Rattle.rules.specs.declared.Heading.{Heading}
use Rattle.rules.specs.declared.Order.{Order}
use Rattle.rules.specs.declared.Standing.{Standing}

abbrev pub quick_rivals : Heading → List Order → List ℕ → ℕ → Scan ℕ
quick_rivals h orders remaining k = over_ends (limit_ends (entered h orders remaining)) (rival_pieces h orders remaining k)

abbrev pub quick_standing : Heading → List Order → List ℕ → List Standing
quick_standing h orders remaining = standing_by (quick_rivals h orders remaining) h orders remaining

pub quick_standing_lem : (h : Heading) (orders : List Order) (remaining : List ℕ)
    → standing h orders remaining ≡ quick_standing h orders remaining
unfolding standing
quick_standing_lem h orders remaining =
    ap (λ (rivals : ℕ → Scan ℕ). standing_by rivals h orders remaining)
    (fun_ext (λ k.
    scan_at_ends (limit_ends (entered h orders remaining)) (rival_pieces h orders remaining k)
    (pieces_step _ _ (entered h orders remaining))))

abbrev pub quick_auction : Heading → ℕ → List Standing → Auction
quick_auction h last os = auction_by (over_ends (level_ends h os) (level h os)) h last

pub quick_auction_lem : (h : Heading) (last : ℕ) (os : List Standing) → auction h last os ≡ quick_auction h last os
unfolding auction
quick_auction_lem h last os =
    ap (λ prices. auction_by prices h last) (scan_at_ends (level_ends h os) (level h os) (level-step h os))

abbrev pub quick_first : List ℕ → List Standing
quick_first ws = quick_standing (heading_of ws) (orders_of ws) (first_start ws).remaining

unfoldable pub quick_round : List ℕ → Start → Round
quick_round ws s = round_by quick_standing quick_auction ws s

pub quick_round_lem : (ws : List ℕ) (s : Start) → round_from ws s ≡ quick_round ws s
unfolding round_from quick_round
quick_round_lem ws s =
    ap (λ (limits : Heading → List Order → List ℕ → List Standing). round_by limits auction ws s)
    (fun_ext (λ h. fun_ext (λ orders. fun_ext (quick_standing_lem h orders))))
    ∙ ap (λ (price : Heading → ℕ → List Standing → Auction). round_by quick_standing price ws s)
    (fun_ext (λ h. fun_ext (λ last. fun_ext (quick_auction_lem h last))))

unfoldable pub quick_answer : Call → Answer
quick_answer = answer_by quick_first quick_round

-- what the rules answer, by the limits alone
pub quick_answer_lem : (c : Call) → answer c ≡ quick_answer c
unfolding answer first_standing quick_answer
quick_answer_lem c =
    ap (λ (first : List ℕ → List Standing). answer_by first round_from c)
    (fun_ext (λ ws. quick_standing_lem (heading_of ws) (orders_of ws) (first_start ws).remaining))
    ∙ ap (λ (round : List ℕ → Start → Round). answer_by quick_first round c) (fun_ext (λ ws. fun_ext (quick_round_lem ws)))
