-- `hypotheses::hypotheses::hold_all` meets its contract: each turn of the loop holds the first of the statements left,
-- and at the end none is left. Assumes nothing.
use Rattle.std.proofs.Common.{arith, sym, ◌∙◌}
use Rattle.hypotheses.proofs.Slots.{hold_next, hold_end}
use Rattle.hypotheses.proofs.hypotheses.hold_all.Goals as goal

pub loop-n-preserved : goal.loop-n-preserved
loop-n-preserved c =
    let l = c.loop-n in
    let h = c.hold_number-held.ensures in
    let next = hold_next l.slots l.held c.args.statements.now l.n-index (omega arith) in
    record {
      slots_left = rw (h.value, h.slots_after) (l.invariant.slots_left ∙ next.0);
      count_left = rw (h.value, h.slots_after) (l.invariant.count_left ∙ next.1);
    }

pub returns-clause-value : goal.returns-clause-value
returns-clause-value c =
    let l = c.loop-n in
    sym (l.invariant.count_left ∙ (hold_end l.slots l.held c.args.statements.now l.n-index (omega arith)).1)

pub returns-clause-slots_after : goal.returns-clause-slots_after
returns-clause-slots_after c =
    let l = c.loop-n in
    sym (l.invariant.slots_left ∙ (hold_end l.slots l.held c.args.statements.now l.n-index (omega arith)).0)
