-- `record_line::write_record_line` meets its contract: each answer's line is written whole or not at all. Assumes
-- nothing.
use Rattle.std.proofs.Common.{ap}
use Rattle.record.specs.Verdict.{RecordVerdict}
use Rattle.line.specs.RecordLine.{record_line}
use Rattle.line.proofs.Line.{owed_same}
use Rattle.line_write.proofs.record_line.write_record_line.Goals as goal

pub returns-in-Err : goal.returns-in-Err
unfolding record_line
returns-in-Err c =
    let a = c.args in
    let w = c.write_refused.ensures in
    let owed =
    owed_same a.line.now (ap (λ (u : RecordVerdict). record_line u a.signers.now) c.in-Err.is)
    (w.value, (w.line_after, w.upper_bound)) in
    record { value = owed.0; line_after = owed.1.0; upper_bound = owed.1.1 }
