-- The loop of `sentences_write::measure::lines_length`: the lines so far are measured. Assumes nothing.
use Rattle.std.proofs.Common.{◌≡◌, length}
use Rattle.table.specs.Tests.{entries}
use Rattle.formula_write.specs.Length.{capped}
use Rattle.sentences_write.proofs.Given.{text_of}
use Rattle.sentences_write.proofs.measure.lines_length.Given as goal

abbrev pub invariant-loop-i : goal.invariant-loop-i
invariant-loop-i l = l.all ≡ capped (length (text_of (entries l.table.heads.now l.table.seconds.now) l.yielded))
