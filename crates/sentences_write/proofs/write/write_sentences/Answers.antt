-- `sentences_write::write::write_sentences` meets its contract: 1 to 3, and then the rest. Assumes nothing.
use Rattle.std.proofs.Common.{◌∙◌, arith}
use Rattle.basics.proofs.Refusals.{handed_on}
use Rattle.record_check.proofs.Whole.{layout_passed}
use Rattle.sentences_write.proofs.Whole.{refused_to_3, few_bytes}
use Rattle.sentences_write.proofs.write.write_sentences.Goals as goal

pub returns-in_err-check_layout-clause-value : goal.returns-in_err-check_layout-clause-value
returns-in_err-check_layout-clause-value c =
    handed_on c.from_residual.result c.from_residual.ensures.1
    ∙ refused_to_3 c.args.file.now _ _ c.check_layout.ensures c.in_err-check_layout.was

pub write_sized-requires : goal.write_sized-requires
write_sized-requires c =
    let file = c.args.file.now in
    let fits = layout_passed file c.check_layout.ensures c.in_ok-check_layout.was in
    record { sized = fits; file_len_bound = omega (arith, few_bytes file fits) }
