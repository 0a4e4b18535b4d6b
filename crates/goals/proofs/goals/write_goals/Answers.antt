-- `goals::write_goals` meets its contract. Each place after a step is applied has `Turned` (proofs/Written.antt), by
-- `turned`, and the lemmas there say what each way on from it makes of that. Assumes nothing.
use Rattle.std.proofs.Common.{refl}
use Rattle.goals.proofs.Written.{reached_none, steps_end, turned, ends_refused, ends_closed, ends_full, goes_back, goes_on, goes_down}
use Rattle.goals.proofs.goals.write_goals.Goals as goal
use Rattle.goals.proofs.goals.write_goals.Goals.{then-count-eq0+else-waiting-eq0, else-count-eq0, then-count-gt1+else-waiting-eq-MOST_DEPTH, else-count-gt1}

pub loop-i-init : goal.loop-i-init
loop-i-init c = reached_none _ _ _ _ _ _ refl

-- refused
pub returns-then-is_refused : goal.returns-then-is_refused
returns-then-is_refused c =
    let t =
    turned c.loop-i.invariant c.loop-i-test.true c.put.ensures c.put-in-loop-i.ensures c.goal_at-here.ensures
    c.upper-code.ensures c.lower.ensures c.apply-premises.ensures
    in
    let all = ends_refused t (c.is_refused.ensures _) c.if-is_refused.true in
    record { numbers_after = all.0; affirms_after = all.1 }

-- no premise, and none waits
pub returns-then-waiting-eq0 : goal.returns-then-waiting-eq0
returns-then-waiting-eq0 c =
    let t =
    turned c.loop-i.invariant c.loop-i-test.true c.put.ensures c.put-in-loop-i.ensures c.goal_at-here.ensures
    c.upper-code.ensures c.lower.ensures c.apply-premises.ensures
    in
    let all =
    ends_closed t (c.is_refused.ensures _) c.if-is_refused.false c.premise_count-count.ensures c.if-count-eq0.true
    c.if-waiting-eq0.true
    in
    record { numbers_after = all.0; affirms_after = all.1 }

-- two premises, and no room
pub returns-then-waiting-eq-MOST_DEPTH : goal.returns-then-waiting-eq-MOST_DEPTH
returns-then-waiting-eq-MOST_DEPTH c =
    let t =
    turned c.loop-i.invariant c.loop-i-test.true c.put.ensures c.put-in-loop-i.ensures c.goal_at-here.ensures
    c.upper-code.ensures c.lower.ensures c.apply-premises.ensures
    in
    let all =
    ends_full t (c.is_refused.ensures _) c.if-is_refused.false c.premise_count-count.ensures c.if-count-gt1.true
    c.if-waiting-eq-MOST_DEPTH.true
    in
    record { numbers_after = all.0; affirms_after = all.1 }

-- the next turn
pub loop-i-preserved : goal.loop-i-preserved
loop-i-preserved c =
    let t =
    turned c.loop-i.invariant c.loop-i-test.true c.put.ensures c.put-in-loop-i.ensures c.goal_at-here.ensures
    c.upper-code.ensures c.lower.ensures c.apply-premises.ensures
    in
    let refused-is = c.is_refused.ensures _ in
    let taken = c.if-is_refused.false in
    let count-is = c.premise_count-count.ensures in
    elim c.if-count-eq0.branch [
      | then-count-eq0+else-waiting-eq0 w ↦
          rw (w.later-is, w.waiting-is, w.kept-is)
          (goes_back t refused-is taken count-is w.if-count-eq0.true w.if-waiting-eq0.false)
      | else-count-eq0 w ↦
          rw (w.later-is, w.waiting-is, w.kept-is)
          (elim w.if-count-gt1.branch [
            | then-count-gt1+else-waiting-eq-MOST_DEPTH v ↦
                rw (v.later-is, v.waiting-is)
                (goes_down t refused-is taken count-is v.if-count-gt1.true v.if-waiting-eq-MOST_DEPTH.false
                w.first_premise-first.ensures w.keep-kept.ensures w.last_premise-last.ensures v.keep.ensures)
            | else-count-gt1 v ↦
                rw (v.later-is, v.waiting-is)
                (goes_on t refused-is taken count-is w.if-count-eq0.false v.if-count-gt1.false
                w.first_premise-first.ensures w.keep-kept.ensures)
          ])
    ]

-- after the last step
pub returns : goal.returns
returns c =
    let all = steps_end c.loop-i.invariant c.loop-i-test.false in
    record { numbers_after = all.0; affirms_after = all.1 }
