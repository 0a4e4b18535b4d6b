-- Runs are derivations (Runs.antt) and the trace is theirs (Trace.antt), over a table that passes 2, 4 and 5, for
-- obligations whose numbers are below F (6 and 7), at 01's depth. Proved in proofs/OverTable.antt. Assumes nothing.
use Rattle.std.specs.Prelude.{ℕ, Bool, ◌≡◌, ◌↔◌, List}
use Rattle.basics.specs.Membership.{◌∈◌}
use Rattle.basics.specs.Tested.{Passed}
use Rattle.basics.specs.Limits.{most_depth}
use Rattle.logic.specs.Principals.{Relation}
use Rattle.table.specs.Tests.{entries, table_tests}
use Rattle.steps.specs.Obligation.{Obligation}
use Rattle.steps.specs.Carried.{Carried, InTable}
use Rattle.steps.specs.Runs.{Closes}
use Rattle.steps.specs.Trace.{trace, lines_of}

module _ (speaks : ℕ → ℕ → Bool) (R : Relation) where
  -- The machine closes on exactly the words of derivations.
  abbrev pub RunsAreDerivations : Type 0
  RunsAreDerivations =
      (heads seconds : List ℕ) → table_tests heads seconds ≡ Passed
      → (os : List Obligation) → ((o : Obligation) → o ∈ os → InTable (entries heads seconds) o)
      → (ws : List ℕ)
      → Closes speaks most_depth (entries heads seconds) os ws ↔ Carried R most_depth (entries heads seconds) os ws

  -- On these words, the trace is the lines of these derivations.
  abbrev pub TraceIsDerivations : Type 0
  TraceIsDerivations =
      (heads seconds : List ℕ) → table_tests heads seconds ≡ Passed
      → (os : List Obligation) → ((o : Obligation) → o ∈ os → InTable (entries heads seconds) o)
      → (ws : List ℕ) (carried : Carried R most_depth (entries heads seconds) os ws)
      → trace speaks most_depth (entries heads seconds) ws os ≡ lines_of R most_depth (entries heads seconds) os ws carried
