-- `sentences_write::text_line::fill_goal` meets its contract, for a truth and for an affirmation. Assumes nothing.
use Rattle.std.proofs.Common.{ap, sym}
use Rattle.text.specs.Ascii.{ascii}
use Rattle.text.proofs.Places.{fill_then}
use Rattle.table.specs.Tests.{entries}
use Rattle.steps.specs.declared.goal.Goal.{Goal}
use Rattle.steps.specs.Carried.{judgment}
use Rattle.sentences.specs.Formula.{goal_text}
use Rattle.formula_write.proofs.Filled.{filled_as}
use Rattle.sentences_write.proofs.text_line.fill_goal.Goals as goal

pub returns-in-True : goal.returns-in-True
unfolding goal_text
returns-in-True c =
    let es = entries c.args.table.heads.now c.args.table.seconds.now in
    let formula = c.fill_formula.ensures in
    let all =
    filled_as _ _ (ap (λ (g : Goal). goal_text (judgment es g)) (sym c.in-True.is))
    (formula.text_after, formula.value) in
    record { text_after = all.0; value = all.1 }

pub returns-in-Affirms : goal.returns-in-Affirms
unfolding ascii goal_text
returns-in-Affirms c =
    let es = entries c.args.table.heads.now c.args.table.seconds.now in
    let principal = c.fill_principal-end.ensures in
    let word = c.fill-end.ensures in
    let formula = c.fill_formula-in-Affirms.ensures in
    let all =
    filled_as _ _ (ap (λ (g : Goal). goal_text (judgment es g)) (sym c.in-Affirms.is))
    (fill_then _ _ _ _ (principal.text_after, principal.value)
    (fill_then _ _ (ascii " affirms ") _ (word.out_after, word.value) (formula.text_after, formula.value))) in
    record { text_after = all.0; value = all.1 }
