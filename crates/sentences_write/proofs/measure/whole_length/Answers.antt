-- `sentences_write::measure::whole_length` meets its contract: there is room for the lengths of all formulas. Assumes
-- nothing.
use Rattle.std.proofs.Common.{arith, ℕ, replicate}
use Rattle.std.proofs.Math.ListN.{length-replicate}
use Rattle.basics.specs.Limits.{most_formulas}
use Rattle.table.specs.Tests.{entries}
use Rattle.formula_write.proofs.Lengths.{measured_whole}
use Rattle.sentences_write.proofs.measure.whole_length.Goals as goal

pub text_length-requires : goal.text_length-requires
text_length-requires c =
    let es = entries c.args.table.heads.now c.args.table.seconds.now in
    measured_whole es (replicate most_formulas 0) c.measure_formulas.new.lengths
    (omega (arith, c.requires, length-replicate {A = ℕ} most_formulas 0)) c.measure_formulas.ensures
