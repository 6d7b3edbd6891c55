-- Where the words of a round lie. A round that is there has all its words in the list: so its first four say its page, and its fill words,
-- behind them, can be cut out.
use mathlib.Core.List.{List, [], ◌∷◌, ◌++◌}
use mathlib.Core.Path.{◌≡◌, sym, ap, ◌∙◌}
use Prim.Native.Nat.{ℕ, ◌+◌, ◌-◌, ◌*◌, ◌≤◌}
use native.Mathlib.Nat.{add-zero}
use native.Mathlib.Omega.{arith}
use lib.ListN.{take, drop}
use borrow.Author.Tests.{lt-ltb, le-ltb}
use denote.Ref.{Bor}
use Rattle.rules.proofs.Stored.{round_there, round_beyond}
use Rattle.rules.specs.Answers.{gives, refused}
use Rattle.rules.specs.Result.{rounds_for, round_said_for}
use Rattle.rules.specs.Stored.{answers, summary_of, stretch_of, on_round, page, summary_numbers}
use Rattle.rules.specs.declared.Refusal.TheVariants.{Argument}
use Rattle.rules.specs.declared.Summary.{Summary}
use Rattle.stored.specs.Steps.{There, summary_from}
use Rattle.stored.specs.Views.{PartOf, fills_from, fills_count}

-- ---- What a round says

module _ (n : ℕ) (rs : List ℕ) (r : ℕ) where
  -- the first four words of a round, as they are handed out and as the rules read them
  same_summary : summary_numbers (summary_from rs (r * (n + 4))) ≡ summary_of (round_said_for n rs r)
  same_summary = rw (add-zero (r * (n + 4)))

  module _ {place : ℕ} (there : There n rs r place) {s : Summary} (said : s ≡ summary_from rs place) where
    summary_said : summary_numbers s ≡ summary_of (round_said_for n rs r)
    summary_said = ap summary_numbers (said ∙ ap (summary_from rs) there.begins) ∙ same_summary

    pub page_said : gives (summary_numbers s) ≡ page n rs r
    unfolding page
    page_said = ap gives summary_said ∙ sym (round_there n rs r _ there.is)

    pub round_said_lem : answers (gives (summary_numbers s ++ ((place + 4) ∷ n ∷ []))) ≡ answers (on_round n rs r (summary_of (round_said_for n rs r) ++ stretch_of n r))
    round_said_lem =
        ap answers
        (ap (λ (numbers : List ℕ). gives (numbers ++ ((place + 4) ∷ n ∷ []))) summary_said
        ∙ ap (λ (at : ℕ). gives (summary_of (round_said_for n rs r) ++ ((at + 4) ∷ n ∷ []))) there.begins
        ∙ sym (round_there n rs r _ there.is))

  pub no_page_lem : rounds_for n rs ≤ r → refused Argument ≡ page n rs r
  unfolding page
  no_page_lem past = sym (round_beyond n rs r _ past)

  pub no_round_said : (vs : List ℕ) → rounds_for n rs ≤ r → answers (refused Argument) ≡ answers (on_round n rs r vs)
  no_round_said vs past = ap answers (sym (round_beyond n rs r vs past))

-- ---- Its fill words

-- cut out by their start and their end
module _ (whole part : Bor (List ℕ)) (n r : ℕ) where
  pub fills_part : {place : ℕ} → There n whole.now r place
      → part.now ≡ take (place + 4 + n - (place + 4)) (drop (place + 4) whole.now)
      → part.ref_ptr.0 ≡ whole.ref_ptr.0 → part.ref_ptr.1 ≡ (place + 4) * 4 + whole.ref_ptr.1
      → PartOf whole part (fills_from n whole.now r) (fills_count n whole.now r)
  unfolding fills_from fills_count
  fills_part {place} there words block offset =
      let count : place + 4 + n - (place + 4) ≡ n = omega arith in
      rw (lt-ltb r (rounds_for n whole.now) there.is, ← there.begins) (record { same = rw count at words; block = block; offset = omega arith })

  pub no_part : rounds_for n whole.now ≤ r → part.now ≡ take 0 whole.now
      → part.ref_ptr.0 ≡ whole.ref_ptr.0 → part.ref_ptr.1 ≡ whole.ref_ptr.1
      → PartOf whole part (fills_from n whole.now r) (fills_count n whole.now r)
  unfolding fills_from fills_count
  no_part past words block offset =
      rw (le-ltb r (rounds_for n whole.now) past) (record { same = words; block = block; offset = omega arith })
