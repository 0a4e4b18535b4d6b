-- `file::words::word_at` meets its contract: a word of its two bytes, 0 past the last. Assumes nothing.
use Rattle.std.proofs.Common.{sym, ◌∙◌}
use Rattle.file.proofs.FileWords.{word_here, word_past}
use Rattle.file.proofs.words.word_at.Goals as goal

pub returns-then-i-file : goal.returns-then-i-file
returns-then-i-file c = c.word.ensures ∙ sym (word_here _ _ c.if-i-file.true)

pub returns-else-i-file : goal.returns-else-i-file
returns-else-i-file c = sym (word_past _ _ c.if-i-file.false)
