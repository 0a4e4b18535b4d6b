-- `sentences_write::measure::named_length` meets its contract: a blank has one byte. Assumes nothing.
use Rattle.table.specs.Spelled.{spelled}
use Rattle.sentences_write.proofs.LineLengths.{length_named, length_unnamed}
use Rattle.sentences_write.proofs.measure.named_length.Goals as goal

pub returns-then-is_naming : goal.returns-then-is_naming
returns-then-is_naming c es e =
    let a = c.args in
    length_named es a.code a.n c.is_naming.ensures c.if-is_naming.true (c.formula_length.ensures (spelled es) e)
    c.sum.ensures

pub returns : goal.returns
returns c es e = length_unnamed es c.args.code c.args.n c.is_naming.ensures c.if-is_naming.false
