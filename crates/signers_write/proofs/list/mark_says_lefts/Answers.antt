-- `signers_write::list::mark_says_lefts` meets its contract: one word more marks what it names. Assumes nothing.
use Rattle.std.proofs.Common.{arith}
use Rattle.signers_write.proofs.Marking.{flags_none, flags_next, flags_all}
use Rattle.signers_write.proofs.list.mark_says_lefts.Goals as goal

pub loop-word-init : goal.loop-word-init
loop-word-init c = flags_none _

pub loop-word-preserved : goal.loop-word-preserved
loop-word-preserved c =
    let l = c.loop-word in
    flags_next c.args.flags.now c.args.steps.now l.word-index l.invariant (omega arith) c.mark_word.ensures

pub returns : goal.returns
returns c =
    let l = c.loop-word in
    flags_all c.args.flags.now c.args.steps.now l.word-index l.invariant (omega arith)
