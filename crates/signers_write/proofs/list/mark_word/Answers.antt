-- `signers_write::list::mark_word` meets its contract: a says left names a formula, and others count for nothing.
-- Assumes nothing.
use Rattle.std.proofs.Common.{ℕ, true, set, ap, sym, ◌∙◌}
use Rattle.signers_write.proofs.Marking.{says_left_marked, others_not}
use Rattle.signers_write.proofs.list.mark_word.Goals as goal

pub returns-then-upper-eq-SAYS_LEFT : goal.returns-then-upper-eq-SAYS_LEFT
returns-then-upper-eq-SAYS_LEFT c =
    let a = c.args in
    c.set_flag.ensures
    ∙ ap (λ (n : ℕ). set a.flags.now n true) c.lower.ensures
    ∙ says_left_marked a.flags.now a.word (sym c.upper.ensures ∙ c.if-upper-eq-SAYS_LEFT.true)

pub returns-else-upper-eq-SAYS_LEFT : goal.returns-else-upper-eq-SAYS_LEFT
returns-else-upper-eq-SAYS_LEFT c =
    others_not c.args.flags.now c.args.word (λ e. c.if-upper-eq-SAYS_LEFT.false (c.upper.ensures ∙ e))
