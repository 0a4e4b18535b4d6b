-- The invariant of the loop of `by_head::repeated_by_head`: the heads of the entries before i are done.
use Rattle.std.proofs.Common.{length, ◌≡◌}
use Rattle.basics.specs.Limits.{most_formulas}
use Rattle.table_check.specs.Chains.{Notes}
use Rattle.table_check.proofs.AllChains.{Done}
use Rattle.table_check.proofs.by_head.repeated_by_head.Given as goal

abbrev pub invariant-loop-i : goal.invariant-loop-i
invariant-loop-i l = record {
  room : length l.seen ≡ most_formulas;
  notes : Notes l.table.heads.now l.seen;
  done : Done l.table.heads.now l.table.seconds.now l.i l.found;
}
