-- A call that is lent a space: a refusal leaves it as it was; words that are given stand in front of it, and have room there.
use mathlib.Core.List.{List, ◌++◌}
use mathlib.Core.Path.{◌≡◌, sym, ap, ◌∙◌}
use Prim.Native.Nat.{ℕ, ◌≤◌}
use native.Mathlib.Omega.{arith}
use lib.ListN.{length, drop, get_or, length-append}
use Rattle.claims.specs.Fits.{Within}
use Rattle.rules.proofs.Lists.{length-listed, first_words_lem}
use Rattle.rules.specs.Answers.{gives, refuses, first_words, space_answer}
use Rattle.rules.specs.Calls.{Call, answer, Writes}
use Rattle.rules.specs.declared.Refusal.{Refusal}
use Rattle.std.specs.Prelude.{Ok, Err}
use Rattle.std.specs.declared.result.Result.{Result}

pub refusal_writes : {call : Call} {n k : ℕ} {space : List ℕ} → answer call ≡ refuses n k → Writes call space space (refuses n k)
refusal_writes refusal = record { answers = sym refusal; holds = rw refusal }

pub words_write : {call : Call} {words before after : List ℕ} {count : ℕ} → answer call ≡ gives words → length words ≡ count
    → after ≡ words ++ drop count before → Writes call before after (gives (first_words count after))
words_write {call} {words} {before} {after} {count} given long holds = record {
  answers = ap gives (rw holds (first_words_lem words (drop count before) count long)) ∙ sym given;
  holds = rw (given, long) holds;
}

-- no more words are given than the space has
pub words_fit : {call : Call} {before after : List ℕ} (written : ℕ) → Writes call before after (gives (first_words written after)) → written ≤ length after
words_fit {call} {before} {after} written writes =
    let given = first_words written after in
    let stand : after ≡ given ++ drop (length given) before = writes.holds ∙ rw (← writes.answers) in
    omega (arith, ap length stand ∙ length-append given (drop (length given) before), length-listed (λ i. get_or after i 0) written)

pub written_within : {call : Call} {before after : List ℕ} (a : Result ℕ Refusal) → Writes call before after (space_answer a after) → Within a (length after)
written_within (Err r) writes = tt
written_within (Ok count) writes = words_fit count writes
