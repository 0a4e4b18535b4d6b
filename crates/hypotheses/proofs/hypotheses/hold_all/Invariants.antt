-- The loop of `hypotheses::hypotheses::hold_all`: holding the statements from the index on gives what holding all of
-- them gave at the start. Assumes nothing.
use Rattle.std.proofs.Common.{◌≡◌}
use Rattle.std.proofs.Math.ListN.{drop}
use Rattle.hypotheses.specs.Slots.{held_all, count_all}
use Rattle.hypotheses.proofs.hypotheses.hold_all.Given as goal

abbrev pub invariant-loop-n : goal.invariant-loop-n
invariant-loop-n l = record {
  slots_left : held_all l.fn.slots 0 l.statements ≡ held_all l.slots l.held (drop l.n-index l.statements);
  count_left : count_all l.fn.slots 0 l.statements ≡ count_all l.slots l.held (drop l.n-index l.statements);
}
