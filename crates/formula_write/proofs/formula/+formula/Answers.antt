-- `formula::fill_formula` and the functions of its cycle meet their contracts: the numbers of the operands fall.
-- Assumes nothing.
use Rattle.std.proofs.Common.{sym}
use Rattle.text.specs.Ascii.{ascii}
use Rattle.table.specs.Tests.{entries_of}
use Rattle.sentences.specs.Formula.{proposition_text}
use Rattle.formula_write.proofs.Filled.{filled_as, filled_none, filled_past}
use Rattle.formula_write.proofs.Operands.{filled_entry, filled_false, filled_lower, filled_higher, filled_compound, no_left, no_right}
use Rattle.formula_write.proofs.formula.+formula.Goals as goal

pub fill_formula-returns-then-at-text : goal.fill_formula-returns-then-at-text
fill_formula-returns-then-at-text t c =
    let all = filled_past c.args.text.now c.args.at _ c.if-at-text.true in
    record { text_after = all.0; value = all.1 }

pub fill_formula-returns-in-Atom : goal.fill_formula-returns-in-Atom
unfolding ascii proposition_text
fill_formula-returns-in-Atom t c =
    let a = c.args in
    let f = c.fill_numbered.ensures in
    let all =
    filled_entry _ _ (entries_of a.table.now) a.n c.entry_at-entry.ensures c.in-Atom.is
    (f.text_after, f.value) in
    record { text_after = all.0; value = all.1 }

pub fill_formula-returns-in-False : goal.fill_formula-returns-in-False
unfolding ascii proposition_text
fill_formula-returns-in-False t c =
    let a = c.args in
    let f = c.fill.ensures in
    let all =
    filled_false _ _ (entries_of a.table.now) a.n c.entry_at-entry.ensures c.in-False.is
    (f.out_after, f.value) in
    record { text_after = all.0; value = all.1 }

pub fill_formula-returns-in_default : goal.fill_formula-returns-in_default
unfolding ascii
fill_formula-returns-in_default t c =
    let a = c.args in
    let k = c.in_default in
    let first = c.fill-end.ensures in
    let left = c.fill_left-end.ensures in
    let word = c.fill_word-end.ensures in
    let right = c.fill_right-end.ensures in
    let last = c.fill-in_default.ensures in
    let all =
    filled_compound _ _ (entries_of a.table.now) a.n c.entry_at-entry.result c.entry_at-entry.ensures
    k.not-Atom k.not-False k.not-IllFormed
    (first.out_after, first.value)
    (left.text_after, left.value)
    (word.text_after, word.value)
    (right.text_after, right.value)
    (last.out_after, last.value) in
    record { text_after = all.0; value = all.1 }

pub fill_left-returns-in_default : goal.fill_left-returns-in_default
fill_left-returns-in_default t c =
    let a = c.args in
    let k = c.in_default in
    let none =
    no_left (entries_of a.table.now) a.n a.entry k.not-Implies k.not-And k.not-Or k.not-Says in
    let all = filled_as _ _ (sym none) (filled_none a.text.now a.at) in
    record { text_after = all.0; value = all.1 }

pub fill_right-returns-in_default : goal.fill_right-returns-in_default
fill_right-returns-in_default t c =
    let a = c.args in
    let k = c.in_default in
    let none =
    no_right (entries_of a.table.now) a.n a.entry k.not-Implies k.not-And k.not-Or k.not-Says in
    let all = filled_as _ _ (sym none) (filled_none a.text.now a.at) in
    record { text_after = all.0; value = all.1 }

pub fill_operand-returns-then-number-n : goal.fill_operand-returns-then-number-n
fill_operand-returns-then-number-n t c =
    let a = c.args in
    let f = c.fill_formula.ensures in
    let all =
    filled_lower _ _ (entries_of a.table.now) a.n a.f.0 c.if-number-n.true (f.text_after, f.value) in
    record { text_after = all.0; value = all.1 }

pub fill_operand-returns : goal.fill_operand-returns
unfolding ascii proposition_text
fill_operand-returns t c =
    let a = c.args in
    let f = c.fill.ensures in
    let all =
    filled_higher _ _ (entries_of a.table.now) a.n a.f.0 c.if-number-n.false (f.out_after, f.value) in
    record { text_after = all.0; value = all.1 }
