-- `sentences_write::measure::text_length` meets its contract: a table has the entries that both arrays have, and as many
-- lengths are the table's. Assumes nothing.
use Rattle.std.proofs.Common.{◌≡◌, ◌∙◌, arith, ap, sym, take, length, ℕ}
use lib.Seq.{length-take-le}
use Rattle.table.specs.Tests.{entries}
use Rattle.table.proofs.Entries.{length_entries}
use Rattle.sentences_write.proofs.LineLengths.{holds_enough}
use Rattle.sentences_write.proofs.measure.text_length.Goals as goal

pub slice_bounds-lines_length-end : goal.slice_bounds-lines_length-end
slice_bounds-lines_length-end c =
    let a = c.args in
    let es = entries a.table.heads.now a.table.seconds.now in
    sym (length-take-le c.min-count.result a.lengths.now
    (omega (arith, length_entries a.table.heads.now a.table.seconds.now, holds_enough es a.lengths.now c.requires)))

pub lines_length-requires : goal.lines_length-requires
lines_length-requires c =
    let a = c.args in
    let counted : c.min-count.result ≡ length (entries a.table.heads.now a.table.seconds.now) =
    omega (arith, length_entries a.table.heads.now a.table.seconds.now) in
    ap (λ (k : ℕ). take k a.lengths.now) counted ∙ c.requires
