-- `Walk::truth` and `Walk::affirmation` end because the words that are left fall. The loop of each keeps that the
-- machine's run from entry is the run from here (`On`), and that the goal is of the function's own kind. Assumes
-- nothing.
use Rattle.std.proofs.Common.{length, ◌-◌, ◌≡◌}
use Rattle.table.specs.Tests.{entries}
use Rattle.steps.specs.declared.goal.Goal.TheVariants.{True, Affirms}
use Rattle.walk.proofs.Walks.{On}
use Rattle.walk.proofs.walk.Walk.+walk.Given as goal

abbrev pub decreases-affirmation : goal.decreases-affirmation
decreases-affirmation l = length l.steps.now - l.self.next

abbrev pub decreases-truth : goal.decreases-truth
decreases-truth l = length l.steps.now - l.self.next

abbrev pub invariant-affirmation-loop-self : goal.invariant-affirmation-loop-self
invariant-affirmation-loop-self l = record {
  own_kind : l.walk.goal ≡ Affirms l.k l.f;
  run_on : On (entries l.heads l.seconds) l.steps l.fn.slots l.self l.slots l.walk;
}

abbrev pub decreases-affirmation-loop-self : goal.decreases-affirmation-loop-self
decreases-affirmation-loop-self l = length l.steps - l.walk.next

abbrev pub invariant-truth-loop-self : goal.invariant-truth-loop-self
invariant-truth-loop-self l = record {
  own_kind : l.walk.goal ≡ True l.f;
  run_on : On (entries l.heads l.seconds) l.steps l.fn.slots l.self l.slots l.walk;
}

abbrev pub decreases-truth-loop-self : goal.decreases-truth-loop-self
decreases-truth-loop-self l = length l.steps - l.walk.next
