-- The invariant of the loop of `order::are_well_formed`: `so_far` says whether all entries before i are well-formed.
use Rattle.std.proofs.Common.{not, ◌≡◌}
use Rattle.basics.specs.First.{first, found}
use Rattle.table_check.proofs.Scan.{wrong}
use Rattle.table_check.proofs.order.are_well_formed.Given as goal

abbrev pub invariant-loop-i : goal.invariant-loop-i
invariant-loop-i l = l.so_far ≡ not (found (first (wrong l.table.heads.now l.table.seconds.now) l.i))
