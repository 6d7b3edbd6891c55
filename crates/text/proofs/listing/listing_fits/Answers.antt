-- `listing_fits` meets its contract: each line is tested, unless the lines are not whole or too many.
use mathlib.Core.Bool.{true, false}
use mathlib.Core.List.{List, []}
use mathlib.Core.Path.{◌≡◌, ◌∙◌}
use Prim.Native.Nat.{ℕ, ◌/◌}
use borrow.Author.Rules.{rules}
use borrow.Author.Tests.{tests}
use lib.ListN.{length}
use Rattle.rules.specs.Lists.{every_to}
use Rattle.rules.specs.Pages.{line_fits, listing_fits}
use Rattle.std.proofs.lemmas.Iterator.{cases_from_all, YieldsList-from_slice}
use Rattle.text.proofs.Chunks.{chunk_at}
use Rattle.text.proofs.Reading.{told_every, line_alone, unfit, fit}
use Rattle.text.proofs.listing.listing_fits.Goals as goal

pub returns-then-is_empty-text : goal.returns-then-is_empty-text
unfolding listing_fits
returns-then-is_empty-text c = let text = c.args.text.now in
    unfit _ (every_to (line_fits text) (length text / 9)) (length text) 135045
    (rw (c.is_empty.ensures, c.as_chunks.ensures.back_len) at c.if-is_empty-text.true)

pub returns : goal.returns
unfolding listing_fits
returns c = let text = c.args.text.now in let lines : List (List ℕ) = c.as_chunks.result.0.now in
    let told = cases_from_all _ _ _ (λ line. line_fits line 0 ≡ true) (λ line. line_fits line 0 ≡ false) c.all.ensures.ran
    (YieldsList-from_slice lines cc) (λ x q k. search (rules, tests)) (λ x q k. search (rules, tests)) in
    let all : c.all.result ≡ every_to (line_fits text) (length text / 9) = told_every (λ line. line_fits line 0) lines [] (line_fits text)
    c.as_chunks.ensures.front_len
    (λ i l. rw (c.as_chunks.ensures.front, chunk_at 9 (length text / 9) text i l) (line_alone text i)) _ told in
    all
    ∙ fit _ (every_to (line_fits text) (length text / 9)) (length text) 135045
    (rw (c.is_empty.ensures, c.as_chunks.ensures.back_len) at c.if-is_empty-text.false)
