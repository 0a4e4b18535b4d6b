-- `check::check_exchange` meets its contract: 1 to 3, and then the rest. Assumes nothing.
use Rattle.std.proofs.Common.{◌∙◌}
use Rattle.basics.proofs.Refusals.{handed_on}
use Rattle.exchange_check.proofs.Whole.{layout_refused}
use Rattle.exchange_check.proofs.check.check_exchange.Goals as goal

pub returns-in_err-check_layout : goal.returns-in_err-check_layout
returns-in_err-check_layout c =
    handed_on c.from_residual.result c.from_residual.ensures.1
    ∙ layout_refused c.args.file.now c.check_layout.ensures c.in_err-check_layout.was
