-- `step_tests::check_steps` meets its contract: the verdict on the proofs of both lists, and 15. Assumes nothing.
use Rattle.std.proofs.Common.{◌∙◌, arith}
use Rattle.basics.proofs.Refusals.{handed_on}
use Rattle.exchange_check.proofs.StepTest.{first_refused, refused_within, second_refused, refused_15, passed_15}
use Rattle.exchange_check.proofs.step_tests.check_steps.Goals as goal

pub returns-in_err-used : goal.returns-in_err-used
returns-in_err-used c =
    handed_on c.from_residual.result c.from_residual.ensures.1
    ∙ first_refused c.args.table.heads.now c.args.table.seconds.now c.args.first.now c.args.second.now c.args.steps.now
    c.check_proofs.ensures c.in_err-used.was

pub returns-in-Ok : goal.returns-in-Ok
returns-in-Ok c =
    refused_15 c.args.table.heads.now c.args.table.seconds.now c.args.first.now c.args.second.now c.args.steps.now
    c.check_proofs.ensures c.in_ok-used.was c.check_proofs-2.ensures c.in-Ok.is c.if-used-more.true

pub returns-in-Ok-2 : goal.returns-in-Ok-2
returns-in-Ok-2 c =
    passed_15 c.args.table.heads.now c.args.table.seconds.now c.args.first.now c.args.second.now c.args.steps.now
    c.check_proofs.ensures c.in_ok-used.was c.check_proofs-2.ensures c.in-Ok.is c.if-used-more.false

pub returns-in-Err : goal.returns-in-Err
returns-in-Err c =
    second_refused c.args.table.heads.now c.args.table.seconds.now c.args.first.now c.args.second.now c.args.steps.now
    c.check_proofs.ensures c.in_ok-used.was c.check_proofs-2.ensures c.in-Err.is

-- A place in the tail, moved, is within the words, and these are fewer than 2 ^ 64.
pub overflow_add-result-in-Err : goal.overflow_add-result-in-Err
overflow_add-result-in-Err c =
    let l = refused_within c.args.table.heads.now c.args.table.seconds.now c.args.first.now c.args.second.now c.args.steps.now
    c.check_proofs.ensures c.in_ok-used.was c.check_proofs-2.ensures c.in-Err.is in
    omega arith
