-- `arrays::check_arrays` meets its contract: each answer is a case of `array_tests`. Assumes nothing.
use Rattle.std.proofs.Common.{◌∙◌}
use Rattle.basics.proofs.Refusals.{handed_on}
use Rattle.exchange_check.proofs.ArrayTests.{refused_4_5}
use Rattle.exchange_check.proofs.arrays.check_arrays.Goals as goal

pub returns-in_err-check_table : goal.returns-in_err-check_table
returns-in_err-check_table c =
    handed_on c.from_residual.result c.from_residual.ensures.1
    ∙ refused_4_5 c.args.table.heads.now c.args.table.seconds.now c.args.lists.now c.requires c.check_table.ensures
    c.in_err-check_table.was
