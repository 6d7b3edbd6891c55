-- What is read through a view. It holds the stored list itself and the sheet's number of orders: so a round read through it is what the
-- rules answer, demand 3 holds of the words that it pages through, and each page says what demand 3 reads from them.
use mathlib.Core.List.{List, ◌++◌, map}
use mathlib.Core.Path.{◌≡◌, sym, ap, ◌∙◌}
use Prim.Native.Nat.{ℕ, ◌+◌, ◌*◌, ◌≤◌, ◌<◌}
use native.Mathlib.Nat.{add_assoc}
use native.Mathlib.Omega.{arith}
use lib.ListN.{length, get_or, take, drop, length-drop, length-map, get_or-map}
use lib.Seq.{length-take-le, get_or-take, get_or-drop}
use borrow.Author.Tests.{lt-ltb}
use denote.Ref.{Bor}
use Rattle.claims.proofs.StoredHold.{read_as_said, round_where}
use Rattle.claims.specs.Stored.{ReadAsSaid}
use Rattle.rules.proofs.Lists.{listed-is}
use Rattle.rules.proofs.Stored.{round_within, round_there}
use Rattle.rules.specs.Answers.{gives, refused}
use Rattle.rules.specs.Result.{count, rounds_for, rounds_in, word_place_for, round_said_for, round_said}
use Rattle.rules.specs.Stored.{answers, on_round, summary_of, stretch_of, page, stored_round, stored_answer, summary_numbers, unopened}
use Rattle.rules.specs.Words.{word_of}
use Rattle.rules.specs.declared.Refusal.{Refusal}
use Rattle.rules.specs.declared.Unopened.{Unopened}
use Rattle.rules.specs.declared.Unopened.TheVariants.{Different, Refused}
use Rattle.std.specs.Prelude.{Ok, Err, IsOkAnd}
use Rattle.std.specs.declared.result.Result.{Result}
use Rattle.stored.specs.Views.{PartOf, fills_from, fills_count, OpensAs, PageOf, PageReads}
use Rattle.stored.specs.declared.Page.{Page}
use Rattle.stored.specs.declared.View.{View}

-- ---- A round by a view

module _ (ws : List ℕ) (stored : Bor (List ℕ)) (r : ℕ) where
  -- what is answered of a round where the result was opened, or was not
  abbrev pub RoundBy : Result View Unopened → Type 0
  RoundBy (Ok v) = answers (on_round v.n v.words.now r (summary_of (round_said_for v.n v.words.now r) ++ stretch_of v.n r))
      ≡ stored_answer (stored_round ws stored.now r)
  RoundBy (Err u) = unopened u ≡ stored_answer (stored_round ws stored.now r)

  pub round_by : (o : Result View Unopened) → OpensAs ws stored o → RoundBy o
  round_by (Ok v) opens = rw (opens.holds, opens.orders) (round_where ws stored.now r opens.answers)
  round_by (Err (Different place)) opens = round_where ws stored.now r opens.answers
  round_by (Err (Refused refusal)) opens = round_where ws stored.now r opens.answers

-- ---- What its pages say

abbrev value : ℕ → ℕ
value w = (word_of w).value

-- the values of n words that lie in a list from the fourth word of a round on
pub stretch_values : (n : ℕ) (rs : List ℕ) (r : ℕ) → word_place_for n r 4 + n ≤ length rs
    → map value (take n (drop (word_place_for n r 4) rs)) ≡ (round_said_for n rs r).fills
stretch_values n rs r within =
    let fill : List ℕ = take n (drop (word_place_for n r 4) rs) in
    let long : length fill ≡ n = length-take-le n (drop (word_place_for n r 4) rs) (omega (arith, length-drop (word_place_for n r 4) rs)) in
    sym
    (listed-is _ n 0 (map value fill) (length-map fill value ∙ long)
    (λ k own.
    ap (λ (place : ℕ). value (get_or rs place 0)) (sym (add_assoc (r * (n + 4)) 4 k))
    ∙ ap value (sym (get_or-drop (word_place_for n r 4) rs k 0) ∙ sym (get_or-take n (drop (word_place_for n r 4) rs) k 0 own))
    ∙ sym (get_or-map value fill k 0)))

module _ {ws : List ℕ} {stored : Bor (List ℕ)} {v : View} (opens : OpensAs ws stored (Ok v)) where
  -- so whoever pages through it reads words of which demand 3 holds
  pub opened_reads : ReadAsSaid ws stored.now
  opened_reads = read_as_said ws stored.now (sym opens.answers)

  -- a round that is there has a page
  pub page_reads : {r : ℕ} {p : Result Page Refusal} → r < rounds_in ws stored.now → PageOf v r p → IsOkAnd p (PageReads ws stored r)
  unfolding page round_said fills_from fills_count
  page_reads {r = r} {p = Ok p} there paged =
      let n : ℕ = count ws in
      let test = lt-ltb r (rounds_for n stored.now) there in
      let said : gives (summary_numbers p.summary) ≡ page n stored.now r = rw (← opens.orders, ← opens.holds) paged.says in
      let cut : PartOf stored p.fills (fills_from n stored.now r) (fills_count n stored.now r) = rw (← opens.orders, ← opens.holds) paged.fills in
      let part : PartOf stored p.fills (word_place_for n r 4) n = rw test at cut in
      record {
        says = said ∙ round_there n stored.now r _ there;
        part = part;
        fills = ap (map value) part.same ∙ stretch_values n stored.now r (omega (arith, round_within n stored.now r there));
      }
  page_reads {r = r} {p = Err e} there paged =
      let said : refused e ≡ page (count ws) stored.now r = rw (← opens.orders, ← opens.holds) paged.says in
      cc (said, round_there (count ws) stored.now r (summary_of (round_said_for (count ws) stored.now r)) there)
