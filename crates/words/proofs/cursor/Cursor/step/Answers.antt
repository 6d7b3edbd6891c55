-- `Cursor::step` meets its contract: the word at the place, and the place after it.
use Rattle.words.proofs.cursor.Cursor.step.Goals as goal

pub returns : goal.returns
returns c = simp c.word_of.ensures
