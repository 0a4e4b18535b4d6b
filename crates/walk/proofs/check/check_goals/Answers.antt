-- `check_goals` meets its contract: each turn of the loop checks the next goal in the tail of the words, and at the end
-- no goal is left. Assumes nothing.
use Rattle.std.proofs.Common.{sym, ◌∙◌, arith}
use Rattle.table.specs.Tests.{entries_of}
use Rattle.walk.proofs.Held.{holding_kept}
use Rattle.walk.proofs.Many.{checked, goals_end, goal_closed, goal_refused, closed_inside, refused_inside}
use Rattle.walk.proofs.check.check_goals.Goals as goal

pub overflow_add-at : goal.overflow_add-at
overflow_add-at c =
    let goal_checked = checked c.loop-goal-test.true c.loop-goal.invariant.in_steps c.check_goal.ensures.value in
    omega (arith, closed_inside goal_checked c.in-Ok.is)

pub overflow_add-result : goal.overflow_add-result
overflow_add-result c =
    let goal_checked = checked c.loop-goal-test.true c.loop-goal.invariant.in_steps c.check_goal.ensures.value in
    omega (arith, refused_inside goal_checked c.in-Err.is)

pub returns-in-Err : goal.returns-in-Err
returns-in-Err c =
    let l = c.loop-goal in
    let goal_checked = checked c.loop-goal-test.true l.invariant.in_steps c.check_goal.ensures.value in
    sym (l.invariant.verdict_left ∙ goal_refused goal_checked c.in-Err.is)

pub loop-goal-preserved : goal.loop-goal-preserved
loop-goal-preserved c =
    let l = c.loop-goal in
    let goal_checked = checked c.loop-goal-test.true l.invariant.in_steps c.check_goal.ensures.value in
    record {
      in_steps = closed_inside goal_checked c.in-Ok.is;
      holding = holding_kept l.invariant.holding c.in-Ok.ensures.left_held;
      verdict_left = l.invariant.verdict_left ∙ goal_closed goal_checked c.in-Ok.is;
    }

pub returns : goal.returns
returns c =
    let l = c.loop-goal in
    let a = c.args in
    let ends = goals_end (entries_of a.table) a.statements.now a.goals.now a.steps.now l.at l.goal-index
    c.loop-goal-test.false in
    sym (l.invariant.verdict_left ∙ ends)
