-- `check::check_arrays` meets its contract: each answer is a case of `arrays_answer`. Assumes nothing.
use Rattle.std.proofs.Common.{◌∙◌}
use Rattle.basics.proofs.Refusals.{handed_on}
use Rattle.independence_check.proofs.Whole.{refused_to_7, refused_17, decided, sized_table_lem}
use Rattle.independence_check.proofs.check.check_arrays.Goals as goal

pub returns-in_err-judge_parts : goal.returns-in_err-judge_parts
returns-in_err-judge_parts c =
    let a = c.args in
    handed_on c.from_residual.result c.from_residual.ensures.1
    ∙ refused_to_7 a.table.heads.now a.table.seconds.now a.statements.now a.goal a.principal c.judge_parts.ensures c.in_err-judge_parts.was

pub returns-then-principal-ge-MOST_PRINCIPALS : goal.returns-then-principal-ge-MOST_PRINCIPALS
returns-then-principal-ge-MOST_PRINCIPALS c =
    let a = c.args in
    refused_17 a.table.heads.now a.table.seconds.now a.statements.now a.goal a.principal c.judge_parts.ensures c.in_ok-judge_parts.was
    c.if-principal-ge-MOST_PRINCIPALS.true

pub is_independent-requires : goal.is_independent-requires
is_independent-requires c =
    let a = c.args in
    sized_table_lem a.table.heads.now a.table.seconds.now a.statements.now a.goal a.principal c.judge_parts.ensures c.in_ok-judge_parts.was

pub returns : goal.returns
returns c =
    let a = c.args in
    decided a.table.heads.now a.table.seconds.now a.statements.now a.goal a.principal c.judge_parts.ensures
    c.in_ok-judge_parts.was c.if-principal-ge-MOST_PRINCIPALS.false c.asked_principal.ensures c.is_independent.ensures
