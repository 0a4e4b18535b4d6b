-- `check::check_record` meets its contract: 1 to 3, and then the rest. Assumes nothing.
use Rattle.std.proofs.Common.{◌∙◌}
use Rattle.basics.proofs.Refusals.{handed_on}
use Rattle.record_check.proofs.Whole.{layout_refused}
use Rattle.record_check.proofs.check.check_record.Goals as goal

pub returns-in_err-check_layout-clause-value : goal.returns-in_err-check_layout-clause-value
returns-in_err-check_layout-clause-value c =
    handed_on c.from_residual.result c.from_residual.ensures.1
    ∙ layout_refused c.args.file.now _ c.check_layout.ensures c.in_err-check_layout.was
