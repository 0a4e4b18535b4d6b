-- `file::words::read_words` meets its contract: what the loop has written is the whole file at its end, or as much of
-- it as there is room for. Assumes nothing.
use Rattle.std.proofs.Common.{sym, arith}
use Rattle.basics.proofs.Written.{written_none}
use Rattle.file.proofs.Reading.{read_more, read_all}
use Rattle.file.proofs.words.read_words.Goals as goal

pub loop-i-init : goal.loop-i-init
loop-i-init c = sym (written_none _)

pub loop-i-preserved : goal.loop-i-preserved
loop-i-preserved c =
    let l = c.loop-i in
    read_more _ _ _ l.i l.invariant _ (omega arith) (omega arith) c.word.ensures

pub returns : goal.returns
returns c = let l = c.loop-i in read_all _ _ _ l.i l.invariant (omega arith)
