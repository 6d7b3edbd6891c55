-- A round that is there has a page, which tells of the round that the rules read, and fill words whose values are the round's fills: so
-- the lines put from these are the round's.
use mathlib.Core.List.{List}
use mathlib.Core.Path.{◌≡◌, refl, sym, ap, ◌∙◌}
use Prim.Native.Nat.{ℕ, ◌+◌, ◌<◌}
use native.Mathlib.Omega.{arith}
use lib.ListN.{length, take, drop, length-drop, get_or-map}
use lib.Seq.{length-take-le}
use borrow.Author.Tests.{lt-ltb}
use Rattle.rules.proofs.Stored.{round_within, round_there}
use Rattle.rules.specs.Answers.{gives, refused}
use Rattle.rules.specs.Fills.{fill_of}
use Rattle.rules.specs.Lists.{joined_to}
use Rattle.rules.specs.Pages.{summary_text}
use Rattle.rules.specs.Result.{rounds_for, word_place_for, round_said_for}
use Rattle.rules.specs.Stored.{summary_of, page, page_answer, summary_numbers}
use Rattle.rules.specs.Words.{word_of, word_at}
use Rattle.rules.specs.declared.Order.{Order}
use Rattle.rules.specs.declared.Refusal.{Refusal}
use Rattle.rules.specs.declared.Summary.{Summary}
use Rattle.std.specs.Result.{IsOk}
use Rattle.std.specs.declared.result.Result.{Result}
use Rattle.std.specs.declared.result.Result.TheVariants.{Ok, Err}
use Rattle.stored.proofs.Views.{stretch_values}
use Rattle.stored.specs.Views.{fills_from, fills_count}
use Rattle.text.proofs.Writing.{◌then◌}
use Rattle.text.specs.Writing.{Puts}
use Rattle.text.specs.declared.writer.Writer.{Writer}
use Rattle.pages.specs.Steps.{told, line_from, fills_in, round_from}

-- the fill that one word says
pub fill_at : (fills : List ℕ) (k : ℕ) → (word_at fills k).value ≡ fill_of (fills_in fills) k
fill_at fills k = sym (get_or-map (λ w. (word_of w).value) fills k 0)

module _ (n : ℕ) (rs : List ℕ) (r : ℕ) (there : r < rounds_for n rs) where
  -- ---- The page

  page_gives : (a : Result Summary Refusal) → page_answer a ≡ page n rs r → page_answer a ≡ gives (summary_of (round_said_for n rs r))
  unfolding page
  page_gives a paged = paged ∙ round_there n rs r _ there

  pub page_had : (a : Result Summary Refusal) → page_answer a ≡ page n rs r → IsOk a
  page_had (Ok s) paged = refl
  page_had (Err f) paged =
      let e : refused f ≡ gives (summary_of (round_said_for n rs r)) = page_gives (Err f) paged in
      let z : ◌≡◌ {A = ℕ} 0 1 = cc in
      absurd (omega arith)

  page_tells : {a : Result Summary Refusal} {s : Summary} → a ≡ Ok s → page_answer a ≡ page n rs r
      → summary_text r (told s) ≡ summary_text r (round_said_for n rs r)
  unfolding summary_text
  page_tells {a} {s} is paged =
      let e : gives (summary_numbers s) ≡ gives (summary_of (round_said_for n rs r)) = rw is at (page_gives a paged) in
      cc

  -- ---- The fill words

  module _ {fills : List ℕ} (same : fills ≡ take (fills_count n rs r) (drop (fills_from n rs r) rs)) where
    cut : fills ≡ take n (drop (word_place_for n r 4) rs)
    unfolding fills_from fills_count
    cut = rw (lt-ltb r (rounds_for n rs) there) at same

    pub fills_count_lem : length fills ≡ n
    fills_count_lem =
        ap length cut
        ∙ length-take-le n (drop (word_place_for n r 4) rs) (omega (arith, length-drop (word_place_for n r 4) rs, round_within n rs r there))

    lines_told : (orders : List Order) → joined_to (line_from orders (fills_in fills)) (length fills)
        ≡ joined_to (line_from orders (round_said_for n rs r).fills) n
    lines_told orders =
        let values : fills_in fills ≡ (round_said_for n rs r).fills = ap fills_in cut ∙ stretch_values n rs r (omega (arith, round_within n rs r there)) in
        rw (fills_count_lem, values)

    -- ---- Both

    pub round_told : {a : Result Summary Refusal} {s : Summary} → a ≡ Ok s → page_answer a ≡ page n rs r
        → (orders : List Order) {m k : ℕ} {before mid after : Writer} → Puts m (summary_text r (told s)) before mid
        → Puts k (joined_to (line_from orders (fills_in fills)) (length fills)) mid after
        → Puts (m + k) (round_from n orders rs r) before after
    unfolding round_from
    round_told is paged orders p q = rw (page_tells is paged) at p then rw (lines_told orders) at q
