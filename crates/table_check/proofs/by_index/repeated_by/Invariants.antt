-- The invariant of the loop of `by_index::repeated_by`: the entries before i are indexed, and none of them is repeated.
use Rattle.std.proofs.Common.{◌≡◌}
use Rattle.basics.specs.Place.{Nowhere}
use Rattle.basics.specs.First.{first}
use Rattle.table_check.specs.Index.{is_repeated, Indexed}
use Rattle.table_check.proofs.by_index.repeated_by.Given as goal

abbrev pub invariant-loop-i : goal.invariant-loop-i
invariant-loop-i l = record {
  indexed : Indexed l.table.heads.now l.table.seconds.now l.roots l.slots l.i;
  none_repeated : first (is_repeated l.table.heads.now l.table.seconds.now) l.i ≡ Nowhere;
}
