-- `length::measure_formulas` meets its contract. Assumes nothing.
use Rattle.std.proofs.Common.{arith, sym, ap, ◌∙◌, take}
use Rattle.table.specs.declared.entry.Entry.{Entry}
use Rattle.table.specs.Tests.{entries}
use Rattle.table.specs.Spelled.{proposition, spelled}
use Rattle.table.proofs.Entries.{length_entries, entry_at_lem}
use Rattle.table.proofs.Upward.{upward_none, upward_front, upward_more}
use Rattle.formula_write.specs.Length.{length_of}
use Rattle.formula_write.proofs.Lengths.{measured_all}
use Rattle.formula_write.proofs.length.measure_formulas.Goals as goal

pub loop-i-init : goal.loop-i-init
loop-i-init c = upward_none _ _ _

pub loop-i-preserved : goal.loop-i-preserved
loop-i-preserved c =
    let i = c.loop-i.i in
    let hs = c.args.table.heads.now in
    let ss = c.args.table.seconds.now in
    let long = length_entries hs ss in
    let made = spelled (take i (entries hs ss)) in
    upward_more _ c.loop-i.invariant c.entry_length.result (omega arith) (omega arith)
    (c.entry_length.ensures made (upward_front _ c.loop-i.invariant)
    ∙ ap (λ (e : Entry). length_of (proposition made e))
    (c.take_apart.ensures ∙ sym (entry_at_lem hs ss i (omega arith) (omega arith))))

pub returns : goal.returns
returns c = measured_all c.loop-i.invariant (omega arith)
