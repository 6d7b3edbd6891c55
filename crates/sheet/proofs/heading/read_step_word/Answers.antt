-- `read_step_word` meets its contract: a heading of five words has none, and in one of six it is the next word.
use mathlib.Core.Path.{sym, ◌∙◌}
use Rattle.sheet.proofs.Laws.{six_words, step_said, step_not_said}
use Rattle.sheet.proofs.heading.read_step_word.Goals as goal

pub returns-then-heading_words-eq-HEADING_WORDS : goal.returns-then-heading_words-eq-HEADING_WORDS
returns-then-heading_words-eq-HEADING_WORDS c = step_not_said _ c.requires (sym c.heading_words.ensures.0 ∙ c.if-heading_words-eq-HEADING_WORDS.true)

pub step-requires : goal.step-requires
step-requires c = let more = six_words _ _ (λ five. c.if-heading_words-eq-HEADING_WORDS.false (c.heading_words.ensures.0 ∙ five)) in
    rw c.requires more.1

pub returns : goal.returns
returns c = c.step.ensures
    ∙ step_said _ c.requires (λ five. c.if-heading_words-eq-HEADING_WORDS.false (c.heading_words.ensures.0 ∙ five))
