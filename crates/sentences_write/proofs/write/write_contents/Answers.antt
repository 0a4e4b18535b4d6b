-- `sentences_write::write::write_contents` meets its contract: nothing is written before every test has passed. Assumes
-- nothing.
use Rattle.std.proofs.Common.{arith, refl}
use Rattle.sentences_write.proofs.Arrays.{few_entries, refused_16, all_written}
use Rattle.sentences_write.proofs.write.write_contents.Goals as goal

pub returns : goal.returns
returns c =
    let a = c.args in
    let goals = c.write_goals.ensures in
    let lines = c.fill_lines-bytes.ensures in
    let listed = c.list_signers-count.ensures in
    let all =
    all_written a.table.heads.now a.table.seconds.now a.statements.now a.goal a.steps.now _ _ c.judge_contents.ensures
    c.in_ok-judge_contents.was c.requires goals.numbers_after goals.affirms_after c.whole_length.ensures (omega arith)
    a.text.now c.if-text-whole_length.false refl listed.value (lines.text_after, lines.value) in
    record { value = all.0; signers_after = listed.list_after; text_after = all.1 }

pub whole_length-requires : goal.whole_length-requires
whole_length-requires c =
    let a = c.args in
    few_entries a.table.heads.now a.table.seconds.now a.statements.now a.goal a.steps.now _ c.judge_contents.ensures
    c.in_ok-judge_contents.was

pub returns-then-text-whole_length-clause-value : goal.returns-then-text-whole_length-clause-value
returns-then-text-whole_length-clause-value c =
    let a = c.args in
    let goals = c.write_goals.ensures in
    refused_16 a.table.heads.now a.table.seconds.now a.statements.now a.goal a.steps.now _ _ c.judge_contents.ensures
    c.in_ok-judge_contents.was c.requires goals.numbers_after goals.affirms_after c.whole_length.ensures (omega arith)
    c.if-text-whole_length.true
