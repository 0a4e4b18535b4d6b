-- `sentences_write::measure::goal_length` meets its contract, for a truth and for an affirmation. Assumes nothing.
use Rattle.std.proofs.Common.{◌≡◌, ◌∙◌, ap, sym, List, ◌++◌, length}
use Rattle.text.specs.Ascii.{ascii}
use Rattle.table.specs.declared.entry.Entry.{Entry}
use Rattle.table.specs.Spelled.{spelled, spell}
use Rattle.steps.specs.declared.goal.Goal.{Goal}
use Rattle.steps.specs.Carried.{judgment}
use Rattle.sentences.specs.Formula.{principal_text, proposition_text, goal_text}
use Rattle.formula_write.specs.Length.{capped, length_of}
use Rattle.formula_write.proofs.Lengths.{length_then, length_after}
use Rattle.sentences_write.proofs.measure.goal_length.Goals as goal

-- the length of a goal's text, where its kind is known
kind_length : (es : List Entry) {g x : Goal} → g ≡ x → capped (length (goal_text (judgment es x)))
    ≡ capped (length (goal_text (judgment es g)))
kind_length es is = ap (λ (x : Goal). capped (length (goal_text (judgment es x)))) (sym is)

pub returns-in-True : goal.returns-in-True
unfolding goal_text length_of
returns-in-True c es e = c.formula_length.ensures (spelled es) e ∙ kind_length es c.in-True.is

pub returns-in-Affirms : goal.returns-in-Affirms
unfolding ascii goal_text length_of
returns-in-Affirms c es e =
    let k = c.in-Affirms in
    let formula = proposition_text (spell es k.f.0) in
    length_then (principal_text k.k.0) (ascii " affirms " ++ formula) c.principal_length.ensures
    (length_after (ascii " affirms ") formula (c.formula_length-in-Affirms.ensures (spelled es) e) c.sum.ensures)
    c.sum-in-Affirms.ensures
    ∙ kind_length es k.is
