-- `formula::fill_word` meets its contract, kind by kind. Assumes nothing.
use Rattle.std.proofs.Common.{sym, ap}
use Rattle.text.specs.Ascii.{ascii}
use Rattle.formula_write.specs.Operand.{word_text}
use Rattle.formula_write.proofs.Filled.{filled_as, filled_none}
use Rattle.formula_write.proofs.Operands.{no_word}
use Rattle.formula_write.proofs.formula.fill_word.Goals as goal

pub returns-in-Implies : goal.returns-in-Implies
unfolding ascii
returns-in-Implies c =
    let f = c.fill.ensures in
    let all = filled_as _ _ (ap word_text (sym c.in-Implies.is)) (f.out_after, f.value) in
    record { text_after = all.0; value = all.1 }

pub returns-in-And : goal.returns-in-And
unfolding ascii
returns-in-And c =
    let f = c.fill-in-And.ensures in
    let all = filled_as _ _ (ap word_text (sym c.in-And.is)) (f.out_after, f.value) in
    record { text_after = all.0; value = all.1 }

pub returns-in-Or : goal.returns-in-Or
unfolding ascii
returns-in-Or c =
    let f = c.fill-in-Or.ensures in
    let all = filled_as _ _ (ap word_text (sym c.in-Or.is)) (f.out_after, f.value) in
    record { text_after = all.0; value = all.1 }

pub returns-in-Says : goal.returns-in-Says
unfolding ascii
returns-in-Says c =
    let f = c.fill-in-Says.ensures in
    let all = filled_as _ _ (ap word_text (sym c.in-Says.is)) (f.out_after, f.value) in
    record { text_after = all.0; value = all.1 }

pub returns-in_default : goal.returns-in_default
returns-in_default c =
    let a = c.args in
    let k = c.in_default in
    let none = no_word a.entry k.not-Implies k.not-And k.not-Or k.not-Says in
    let all = filled_as _ _ (sym none) (filled_none a.text.now a.at) in
    record { text_after = all.0; value = all.1 }
