-- The loop of `check_goals`: the slots hold the statements, and the verdict on all goals is that on the goals from
-- position i on, from the word `at` on. Assumes nothing.
use Rattle.std.proofs.Common.{length, ◌≡◌, ◌≤◌}
use Rattle.table.specs.Tests.{entries_of}
use Rattle.steps.specs.Figure1.{proofs_answer}
use Rattle.walk.specs.Walks.{Holding}
use Rattle.walk.proofs.Many.{verdict_from}
use Rattle.walk.proofs.check.check_goals.Given as goal

abbrev pub invariant-loop-goal : goal.invariant-loop-goal
invariant-loop-goal l = record {
  in_steps : l.at ≤ length l.steps;
  holding : Holding (entries_of l.table) l.statements l.slots l.held;
  verdict_left : proofs_answer l.table.heads.now l.table.seconds.now l.statements l.goals l.steps
      ≡ verdict_from (entries_of l.table) l.statements l.goals l.steps l.at l.goal-index;
}
