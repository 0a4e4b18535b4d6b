-- `judge::judge_contents` meets its contract: one part after the other, in their order. Assumes nothing.
use Rattle.std.proofs.Common.{◌∙◌}
use Rattle.basics.proofs.Refusals.{handed_on}
use Rattle.record_check.proofs.Contents.{refused_to_7, refused_by_walk, by_room}
use Rattle.record_check.proofs.judge.judge_contents.Goals as goal

pub returns-in_err-judge_parts : goal.returns-in_err-judge_parts
returns-in_err-judge_parts c =
    handed_on c.from_residual.result c.from_residual.ensures.1
    ∙ refused_to_7 c.args.table.heads.now c.args.table.seconds.now c.args.statements.now c.args.goal c.args.steps.now c.args.room
    c.judge_parts.ensures c.in_err-judge_parts.was

pub returns-in_err-judge_steps : goal.returns-in_err-judge_steps
returns-in_err-judge_steps c =
    handed_on c.from_residual-in_err-judge_steps.result c.from_residual-in_err-judge_steps.ensures.1
    ∙ refused_by_walk c.args.table.heads.now c.args.table.seconds.now c.args.statements.now c.args.goal c.args.steps.now c.args.room
    c.judge_parts.ensures c.in_ok-judge_parts.was c.judge_steps.ensures c.in_err-judge_steps.was

pub returns : goal.returns
returns c =
    by_room c.args.table.heads.now c.args.table.seconds.now c.args.statements.now c.args.goal c.args.steps.now c.args.room
    c.judge_parts.ensures c.in_ok-judge_parts.was c.judge_steps.ensures c.in_ok-judge_steps.was c.judge_room.ensures
