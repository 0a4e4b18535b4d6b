-- `granted::fill_granted` meets its contract: its four parts, one after the other, are the line. Assumes nothing.
use Rattle.text.specs.Ascii.{ascii}
use Rattle.text.proofs.Places.{fill_then}
use Rattle.line.specs.RecordLine.{record_line}
use Rattle.line_write.proofs.granted.fill_granted.Goals as goal

pub returns : goal.returns
unfolding ascii record_line
returns c =
    let word = c.fill-end.ensures in
    let count = c.fill_decimal-end.ensures in
    let named = c.fill_listed-end.ensures in
    let last = c.fill.ensures in
    let counted =
    fill_then _ 0 (ascii "granted ") _ (word.out_after, word.value) (count.out_after, count.value) in
    let all =
    fill_then _ 0 _ (ascii "\n") (fill_then _ 0 _ _ counted (named.line_after, named.value))
    (last.out_after, last.value) in
    record { line_after = all.0; value = all.1 }
