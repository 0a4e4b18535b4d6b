-- `refused::fill_refused` meets its contract: its five parts, one after the other, are the line. Assumes nothing.
use Rattle.text.specs.Ascii.{ascii}
use Rattle.text.proofs.Places.{fill_then}
use Rattle.line.specs.RefusedLine.{refused_line}
use Rattle.line_write.proofs.refused.fill_refused.Goals as goal

pub returns : goal.returns
unfolding ascii refused_line
returns c =
    let word = c.fill-end.ensures in
    let number = c.fill_decimal-end.ensures in
    let middle = c.fill-end-2.ensures in
    let place = c.fill_decimal-end-2.ensures in
    let last = c.fill.ensures in
    let numbered =
    fill_then _ 0 (ascii "refused ") _ (word.out_after, word.value) (number.out_after, number.value) in
    let parted = fill_then _ 0 _ (ascii " place ") numbered (middle.out_after, middle.value) in
    let all =
    fill_then _ 0 _ (ascii "\n") (fill_then _ 0 _ _ parted (place.out_after, place.value))
    (last.out_after, last.value) in
    record { line_after = all.0; value = all.1 }
