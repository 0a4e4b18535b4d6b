-- `check::independent_of` meets its contract: 1 to 3, and then the rest, in a room that is enough for the words before
-- the steps. Assumes nothing.
use Rattle.std.proofs.Common.{◌∙◌, arith}
use Rattle.basics.proofs.Refusals.{handed_on}
use Rattle.record_check.proofs.Whole.{layout_passed}
use Rattle.independence_check.proofs.Whole.{layout_refused}
use Rattle.independence_check.proofs.check.independent_of.Goals as goal

pub returns-in_err-check_layout : goal.returns-in_err-check_layout
returns-in_err-check_layout c =
    handed_on c.from_residual.result c.from_residual.ensures.1
    ∙ layout_refused c.args.file.now c.args.principal c.check_layout.ensures c.in_err-check_layout.was

pub check_sized-requires-clause-sized : goal.check_sized-requires-clause-sized
check_sized-requires-clause-sized c = layout_passed c.args.file.now c.check_layout.ensures c.in_ok-check_layout.was

pub check_sized-requires-else-steps_from-le-FEW_WORDS-clause-sized :
    goal.check_sized-requires-else-steps_from-le-FEW_WORDS-clause-sized
check_sized-requires-else-steps_from-le-FEW_WORDS-clause-sized c =
    layout_passed c.args.file.now c.check_layout.ensures c.in_ok-check_layout.was

-- The words before the steps are at most those of the longest record.
pub check_sized-requires-else-steps_from-le-FEW_WORDS-clause-words_fit :
    goal.check_sized-requires-else-steps_from-le-FEW_WORDS-clause-words_fit
check_sized-requires-else-steps_from-le-FEW_WORDS-clause-words_fit c =
    let s = layout_passed c.args.file.now c.check_layout.ensures c.in_ok-check_layout.was in
    omega (arith, s.in_range.few_formulas, s.in_range.few_statements)
