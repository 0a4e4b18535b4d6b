-- `judge::judge_steps` meets its contract: the walk's verdict, and 15. Assumes nothing.
use Rattle.std.proofs.Common.{◌∙◌, arith}
use Rattle.basics.proofs.Refusals.{handed_on}
use Rattle.record_check.proofs.StepTest.{refused_15, passed_15, refused_9_14}
use Rattle.record_check.proofs.judge.judge_steps.Goals as goal

pub returns-in_err-used : goal.returns-in_err-used
returns-in_err-used c =
    handed_on c.from_residual.result c.from_residual.ensures.1
    ∙ refused_9_14 _ _ _ _ _ c.check_proof.ensures c.in_err-used.was

pub returns-then-used-steps : goal.returns-then-used-steps
returns-then-used-steps c = refused_15 _ _ _ _ _ c.check_proof.ensures c.in_ok-used.was (omega arith)

pub returns : goal.returns
returns c = passed_15 _ _ _ _ _ c.check_proof.ensures c.in_ok-used.was (omega arith)
