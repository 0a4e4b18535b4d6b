-- The invariant of the loop of `by_index::take_in`: an earlier entry that is the same as i is met from the slot that
-- the search has come to, and no more entries were passed than this slot's number. The measure falls since links rise
-- along a path.
use Rattle.std.proofs.Common.{◌+◌, ◌-◌, ◌*◌, ◌≤◌}
use Rattle.table_check.proofs.Search.{Searched}
use Rattle.table_check.proofs.by_index.take_in.Given as goal

abbrev pub invariant-loop-link : goal.invariant-loop-link
invariant-loop-link l = record {
  searched : Searched l.table.heads.now l.table.seconds.now l.roots l.slots l.i l.at l.bits l.link;
  few_passed : l.passed ≤ l.at;
}

abbrev pub decreases-loop-link : goal.decreases-loop-link
decreases-loop-link l = l.roots + 2 * l.i - l.at
