-- The entries before i are measured.
use Rattle.table.specs.Tests.{entries_of}
use Rattle.table.proofs.Upward.{Upward}
use Rattle.formula_write.specs.Length.{length_of}
use Rattle.formula_write.proofs.length.measure_formulas.Given as goal

abbrev pub invariant-loop-i : goal.invariant-loop-i
invariant-loop-i l = Upward length_of (entries_of l.fn.table) l.fn.lengths l.lengths l.i
