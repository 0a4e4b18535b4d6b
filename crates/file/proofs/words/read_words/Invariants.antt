-- The loop of `file::words::read_words`: the first i words of the file are written. Assumes nothing.
use Rattle.std.proofs.Common.{◌≡◌}
use Rattle.file.proofs.Reading.{read}
use Rattle.file.proofs.words.read_words.Given as goal

abbrev pub invariant-loop-i : goal.invariant-loop-i
invariant-loop-i l = l.words ≡ read l.file l.fn.words l.i
