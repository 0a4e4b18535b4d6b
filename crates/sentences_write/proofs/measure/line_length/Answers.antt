-- `sentences_write::measure::line_length` meets its contract: its parts, summed one after the other. Assumes nothing.
use Rattle.std.proofs.Common.{ap, length}
use Rattle.sentences_write.proofs.LineLengths.{length_line}
use Rattle.sentences_write.proofs.measure.line_length.Goals as goal

pub returns : goal.returns
returns c es e =
    let a = c.args in
    length_line es a.i a.word a.goal c.upper-code.ensures c.lower-named.ensures
    c.decimal_length.ensures c.sum-all.ensures
    (ap length c.rule_name.ensures) c.sum-all-2.ensures
    (c.named_length.ensures es e) c.sum-all-3.ensures
    (c.goal_length.ensures es e) c.sum.ensures
