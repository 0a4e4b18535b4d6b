-- The loop of `sides::mark_sides`: the entries before i are marked for both sides.
use Rattle.logic.specs.Sides as Sides
use Rattle.table.specs.Tests.{entries}
use Rattle.table.proofs.Upward.{Upward}
use Rattle.steps.specs.Figure1.{same}
use Rattle.independence.specs.Test.{proving_says}
use Rattle.independence_check.proofs.sides.mark_sides.Given as goal

abbrev pub invariant-loop-i : goal.invariant-loop-i
invariant-loop-i l = record {
  on_proving : Upward (proving_says same l.k.0 Sides.proving) (entries l.table.heads.now l.table.seconds.now) l.fn.proving l.proving l.i;
  on_given : Upward (proving_says same l.k.0 Sides.given) (entries l.table.heads.now l.table.seconds.now) l.fn.given l.given l.i;
}
