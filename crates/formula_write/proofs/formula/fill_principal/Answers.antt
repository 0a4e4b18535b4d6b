-- `formula::fill_principal` meets its contract: a principal's letter. Assumes nothing.
use Rattle.text.specs.Ascii.{ascii}
use Rattle.formula_write.proofs.formula.fill_principal.Goals as goal

pub returns : goal.returns
unfolding ascii
returns c =
    let all = c.fill_numbered.ensures in
    record { text_after = all.text_after; value = all.value }
