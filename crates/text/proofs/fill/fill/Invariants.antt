-- The loop of `fill::fill`: the first `i` bytes are written, and they had room. The measure is what is left of the
-- bytes. Assumes nothing.
use Rattle.std.proofs.Common.{◌-◌, length}
use Rattle.text.proofs.Places.{Filling}
use Rattle.text.proofs.fill.fill.Given as goal

abbrev pub invariant-loop-i : goal.invariant-loop-i
invariant-loop-i l = Filling l.fn.out l.at l.bytes l.out l.i

abbrev pub decreases-loop-i : goal.decreases-loop-i
decreases-loop-i l = length l.bytes - l.i
