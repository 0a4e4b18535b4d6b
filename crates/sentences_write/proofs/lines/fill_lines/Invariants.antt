-- The loop of `sentences_write::lines::fill_lines`: the text of the lines so far is written. Assumes nothing.
use Rattle.table.specs.Tests.{entries}
use Rattle.formula_write.proofs.Filled.{Filled}
use Rattle.sentences_write.proofs.Given.{text_of}
use Rattle.sentences_write.proofs.lines.fill_lines.Given as goal

abbrev pub invariant-loop-i : goal.invariant-loop-i
invariant-loop-i l = Filled l.fn.text 0 (text_of (entries l.table.heads.now l.table.seconds.now) l.yielded) l.text l.end
