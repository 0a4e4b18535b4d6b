-- `report::record_line` meets its contract: the line is that of the check's answer. Assumes nothing.
use Rattle.report.proofs.Printed.{printed}
use Rattle.report.proofs.record_line.Goals as goal

pub returns : goal.returns
returns c =
    let r = c.check_record-verdict.ensures in
    let w = c.write_record_line.ensures in
    let owed =
    printed c.args.file.now c.args.line.now r.value r.signers_after (w.value, (w.line_after, w.upper_bound)) in
    record { value = owed.0; line_after = owed.1.0; upper_bound = owed.1.1 }
