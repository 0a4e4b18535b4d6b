-- The theorems over a table that passes 2, 4 and 5 (specs/OverTable.antt). Assumes nothing.
use Prim.Native.Nat.{ℕ}
use native.Mathlib.Omega.{arith}
use mathlib.Core.Bool.{Bool}
use mathlib.Core.Path.{◌≡◌}
use mathlib.Core.List.{List}
use Rattle.basics.specs.Tested.{Passed}
use Rattle.basics.specs.Limits.{most_depth}
use Rattle.logic.specs.Principals.{Relation, Decides}
use Rattle.table.specs.Tests.{entries, table_tests}
use Rattle.table.proofs.Entries.{length_entries_equal}
use Rattle.table.proofs.Passed.{passed_is_good}
use Rattle.steps.specs.OverTable.{RunsAreDerivations, TraceIsDerivations}
use Rattle.steps.proofs.Has as Table
use Rattle.steps.proofs.Runs as Every
use Rattle.steps.proofs.Trace as AnyTrace

-- what the theorems ask of a table
table_passed : (heads seconds : List ℕ) → table_tests heads seconds ≡ Passed → Table.Passed (entries heads seconds)
table_passed heads seconds passed =
    let good = passed_is_good heads seconds passed in record {
      few = omega (arith, length_entries_equal heads seconds good.same_length, good.few);
      ordered = good.ordered;
      distinct = good.distinct;
    }

module _ (speaks : ℕ → ℕ → Bool) (R : Relation) (decides : Decides speaks R) where
  pub runs_are_derivations : RunsAreDerivations speaks R
  runs_are_derivations heads seconds passed =
      let t = table_passed heads seconds passed in
      Every.runs_are_derivations speaks R decides most_depth (entries heads seconds) t.few t.ordered t.distinct

  pub trace_is_derivations : TraceIsDerivations speaks R
  trace_is_derivations heads seconds passed =
      let t = table_passed heads seconds passed in
      AnyTrace.trace_is_derivations speaks R decides most_depth (entries heads seconds) t.few t.ordered
      t.distinct
