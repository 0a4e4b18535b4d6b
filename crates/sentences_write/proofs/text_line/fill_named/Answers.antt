-- `sentences_write::text_line::fill_named` meets its contract: a blank and the formula where the rule names one.
-- Assumes nothing.
use Rattle.text.specs.Ascii.{ascii}
use Rattle.text.proofs.Places.{fill_then}
use Rattle.table.specs.Tests.{entries}
use Rattle.table.specs.Spelled.{spell}
use Rattle.sentences.specs.Formula.{proposition_text}
use Rattle.sentences_write.proofs.Named.{filled_named, filled_unnamed}
use Rattle.sentences_write.proofs.text_line.fill_named.Goals as goal

pub returns-then-is_naming : goal.returns-then-is_naming
unfolding ascii
returns-then-is_naming c =
    let a = c.args in
    let es = entries a.table.heads.now a.table.seconds.now in
    let blank = c.fill-end.ensures in
    let formula = c.fill_formula.ensures in
    let all =
    filled_named _ _ es a.code a.n c.is_naming.ensures c.if-is_naming.true
    (fill_then _ _ (ascii " ") (proposition_text (spell es a.n)) (blank.out_after, blank.value)
    (formula.text_after, formula.value)) in
    record { text_after = all.0; value = all.1 }

pub returns : goal.returns
returns c =
    let a = c.args in
    let all =
    filled_unnamed a.text.now a.at (entries a.table.heads.now a.table.seconds.now) a.code a.n c.is_naming.ensures
    c.if-is_naming.false in
    record { text_after = all.0; value = all.1 }
