-- `report::sentences_text` meets its contract: the text that was written, or the line of the refusal. Assumes nothing.
use Rattle.report.proofs.Printed.{text_printed, refusal_printed}
use Rattle.report.proofs.sentences_text.Goals as goal

pub returns-in-Ok : goal.returns-in-Ok
returns-in-Ok c =
    let s = c.write_sentences.ensures in
    let owed = text_printed c.args.file.now c.args.text.now s.value c.in-Ok.is s.text_after in
    record { value = owed.0; text_after = owed.1.0; upper_bound = owed.1.1 }

pub returns-in-Err : goal.returns-in-Err
returns-in-Err c =
    let s = c.write_sentences.ensures in
    let w = c.write_record_line.ensures in
    let owed =
    refusal_printed c.args.file.now c.args.text.now s.value _ c.in-Err.is s.text_after
    (w.value, (w.line_after, w.upper_bound)) in
    record { value = owed.0; text_after = owed.1.0; upper_bound = owed.1.1 }
