-- `signers_write::list::list_marked_signers` meets its contract: the flags that are set are those of what says lefts
-- name, as far as the table goes. Assumes nothing.
use Rattle.std.proofs.Common.{length, ap, ◌∙◌}
use Rattle.basics.specs.Written.{written}
use Rattle.signers_write.proofs.Marking.{signers_by_flags}
use Rattle.signers_write.proofs.list.list_marked_signers.Goals as goal

pub returns : goal.returns
returns c =
    let a = c.args in
    let w = c.write_signers.ensures in
    let same =
    signers_by_flags a.table.heads.now a.table.seconds.now a.statements.now a.steps.now c.requires.flags_value
    c.requires.most_formulas_in_bounds c.mark_says_lefts.ensures in
    record { value = w.value ∙ ap length same; list_after = w.list_after ∙ ap (written a.list.now) same }
