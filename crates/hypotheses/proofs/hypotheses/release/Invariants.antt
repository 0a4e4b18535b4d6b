-- The loop of `hypotheses::hypotheses::release`: taking back the hypotheses at the places before i gives what taking
-- back all of them gave at the start. Assumes nothing.
use Rattle.std.proofs.Common.{◌≡◌}
use Rattle.hypotheses.specs.Slots.{released, released_to}
use Rattle.hypotheses.proofs.hypotheses.release.Given as goal

abbrev pub invariant-loop-i : goal.invariant-loop-i
invariant-loop-i l = released l.fn.slots l.from l.to ≡ released_to l.slots l.from l.i
