-- `judge::judge_parts` meets its contract: each answer is a case of `part_tests`. Assumes nothing.
use Rattle.basics.proofs.Refusals.{handed_on}
use Rattle.std.proofs.Common.{◌∙◌}
use Rattle.record_check.proofs.PartTests.{refused_2_4_5}
use Rattle.record_check.proofs.judge.judge_parts.Goals as goal

pub returns-in_err-check_table : goal.returns-in_err-check_table
returns-in_err-check_table c =
    handed_on c.from_residual.result c.from_residual.ensures.1
    ∙ refused_2_4_5 c.args.table.heads.now c.args.table.seconds.now _ c.args.goal c.if-statements-gt-MOST_STATEMENTS.false
    c.check_table.ensures c.in_err-check_table.was
