-- `sentences_write::text_line::fill_line` meets its contract: its seven parts, one after the other. Assumes nothing.
use Rattle.text.specs.Ascii.{ascii}
use Rattle.table.specs.Tests.{entries}
use Rattle.formula_write.proofs.Filled.{filled_as}
use Rattle.sentences_write.proofs.Named.{filled_line}
use Rattle.sentences_write.proofs.text_line.fill_line.Goals as goal

pub returns : goal.returns
unfolding ascii
returns c =
    let a = c.args in
    let number = c.fill_decimal-end.ensures in
    let blank = c.fill-end.ensures in
    let name = c.fill-end-2.ensures in
    let named = c.fill_named-end.ensures in
    let word = c.fill-end-3.ensures in
    let goal = c.fill_goal-end.ensures in
    let feed = c.fill.ensures in
    let all =
    filled_line _ _ (entries a.table.heads.now a.table.seconds.now) a.i a.word a.goal c.upper-code.ensures c.lower-named.ensures
    (number.out_after, number.value) (blank.out_after, blank.value) (filled_as _ _ c.rule_name.ensures (name.out_after, name.value))
    (named.text_after, named.value) (word.out_after, word.value) (goal.text_after, goal.value)
    (feed.out_after, feed.value) in
    record { text_after = all.0; value = all.1 }
