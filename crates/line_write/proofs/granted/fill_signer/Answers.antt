-- `granted::fill_signer` meets its contract: what is filled in are a blank and then the number. Assumes nothing.
use Rattle.text.specs.Ascii.{ascii}
use Rattle.text.proofs.Places.{fill_then}
use Rattle.line_write.proofs.granted.fill_signer.Goals as goal

pub returns : goal.returns
unfolding ascii
returns c =
    let first = c.fill-end.ensures in
    let last = c.fill_decimal.ensures in
    let all = fill_then _ _ (ascii " ") _ (first.out_after, first.value) (last.out_after, last.value) in
    record { line_after = all.0; value = all.1 }
