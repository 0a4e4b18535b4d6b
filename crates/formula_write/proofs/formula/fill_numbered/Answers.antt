-- `formula::fill_numbered` meets its contract: what is filled in are a letter and then the number. Assumes nothing.
use Rattle.text.proofs.Places.{fill_then}
use Rattle.formula_write.proofs.formula.fill_numbered.Goals as goal

pub returns : goal.returns
returns c =
    let first = c.fill-end.ensures in
    let last = c.fill_decimal.ensures in
    let all = fill_then _ _ c.args.letter.now _ (first.out_after, first.value) (last.out_after, last.value) in
    record { text_after = all.0; value = all.1 }
