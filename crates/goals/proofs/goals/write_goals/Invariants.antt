-- The loop of `goals::write_goals`: the goals before i are written, and from the next goal and those that wait come the
-- rest (`Reached`, proofs/Written.antt). Assumes nothing.
use Rattle.table.specs.Tests.{entries}
use Rattle.goals.proofs.Written.{Reached}
use Rattle.goals.proofs.goals.write_goals.Given as goal

abbrev pub invariant-loop-i : goal.invariant-loop-i
invariant-loop-i l =
    Reached (entries l.table.heads.now l.table.seconds.now) l.steps l.goal l.fn.numbers l.fn.affirms l.numbers l.affirms
    l.later l.waiting l.kept l.i
