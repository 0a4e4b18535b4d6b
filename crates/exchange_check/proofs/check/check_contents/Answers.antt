-- `check::check_contents` meets its contract: equal only after every test has passed. Assumes nothing.
use Rattle.std.proofs.Common.{◌∙◌}
use Rattle.basics.proofs.Refusals.{handed_on}
use Rattle.exchange_check.proofs.Contents.{refused_to_7, by_steps}
use Rattle.exchange_check.proofs.check.check_contents.Goals as goal

pub returns-in_err-check_arrays : goal.returns-in_err-check_arrays
returns-in_err-check_arrays c =
    handed_on c.from_residual.result c.from_residual.ensures.1
    ∙ refused_to_7 c.args.table.heads.now c.args.table.seconds.now c.args.lists.now c.args.first.now c.args.second.now
    c.args.steps.now c.check_arrays.ensures c.in_err-check_arrays.was

pub returns : goal.returns
returns c =
    by_steps c.args.table.heads.now c.args.table.seconds.now c.args.lists.now c.args.first.now c.args.second.now
    c.args.steps.now c.check_arrays.ensures c.in_ok-check_arrays.was c.check_steps.ensures
