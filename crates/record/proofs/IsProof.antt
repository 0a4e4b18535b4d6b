-- The machine closes on the steps of a file that keeps the layout exactly when they are a proof of its goal. Assumes
-- nothing.
use Prim.Native.Nat.{ℕ}
use native.Mathlib.Omega.{arith}
use mathlib.Core.Bool.{Bool}
use mathlib.Core.Path.{◌≡◌, refl, sym, subst, ◌∙◌}
use mathlib.Core.Logic.{◌↔◌}
use mathlib.Core.List.Memᴰ
use mathlib.Core.List.{List, [], ◌∷◌, append-nil}
use lib.ListN.{length}
use Rattle.basics.specs.Membership.{◌∈◌}
use Rattle.basics.specs.Tested.{Passed}
use Rattle.basics.specs.Limits.{most_depth}
use Rattle.logic.specs.Principals.{Relation, Decides}
use Rattle.table.specs.Number.{number}
use Rattle.table.specs.Tests.{table_tests}
use Rattle.table.proofs.Answers.{passed}
use Rattle.table.proofs.Ordered.{no_fault_ordered}
use Rattle.table.proofs.Unlike.{not_repeated}
use Rattle.steps.specs.Verdict.{Closed}
use Rattle.steps.specs.Obligation.{Obligation, obligation}
use Rattle.steps.specs.Words.{words}
use Rattle.steps.specs.Carried.{Carried, InTable}
use Rattle.steps.specs.Trace.{lines, trace}
use Rattle.steps.proofs.OverTable.{runs_are_derivations, trace_is_derivations}
use Rattle.record.specs.Layout.{goal, heads, seconds, statements, steps, table}
use Rattle.record.specs.Answer.{step_verdict}
use Rattle.record.specs.Proof.{Keeps, IsProof}
use Rattle.record.proofs.Lengths.{length_table, sized_table_lem}

module _ (R : Relation) (file : List ℕ) where
  -- A derivation whose words are the steps, and nothing after them.
  is_carried : Carried R most_depth (table file) (obligation (statements file) (goal file) ∷ []) (steps file)
      ↔ IsProof R file
  is_carried = (
    λ (rest, (proved, none)). record {
      derivation = proved.derivation;
      within = proved.within;
      words = proved.begins ∙ rw none (append-nil (words (number (table file)) proved.derivation));
    },
    λ p. ([], (record { derivation = p.derivation; within = p.within; begins = p.words ∙ sym (append-nil _) }, refl)),
  )

module _ (file : List ℕ) (keeps : Keeps file) where
  -- The table passes 2, 4 and 5,
  pub table_passes : table_tests (heads file) (seconds file) ≡ Passed
  table_passes =
      passed (heads file) (seconds file) (sized_table_lem file keeps.sized)
      ((no_fault_ordered (table file)).1 keeps.ordered)
      ((not_repeated (heads file) (seconds file)).1 keeps.none_repeated)

  -- and all numbers are in it.
  in_table : (o : Obligation) → o ∈ obligation (statements file) (goal file) ∷ [] → InTable (table file) o
  in_table o m =
      let sized = length_table file keeps.sized in
      subst (InTable (table file)) (sym (Memᴰ.eq_of_singleton m)) record {
        hypotheses_in = λ n stands. let below = keeps.statements_in n stands in omega arith;
        goal_in = let below = keeps.goal_in in omega arith;
      }

module _ (speaks : ℕ → ℕ → Bool) (R : Relation) (decides : Decides speaks R) (file : List ℕ) (keeps : Keeps file) where
  pub closes_on_proof : step_verdict speaks file ≡ Closed (length (steps file)) ↔ IsProof R file
  closes_on_proof =
      let (to, from) = runs_are_derivations speaks R decides (heads file) (seconds file) (table_passes file keeps)
      (obligation (statements file) (goal file) ∷ []) (in_table file keeps) (steps file) in
      (λ e. (is_carried R file).0 (to e), λ p. from ((is_carried R file).1 p))

  -- The trace of its steps is the lines of that derivation.
  pub lines_of_proof : (p : IsProof R file)
      → trace speaks most_depth (table file) (steps file) (obligation (statements file) (goal file) ∷ []) ≡ lines
      p.derivation
  unfolding is_carried
  lines_of_proof p =
      trace_is_derivations speaks R decides (heads file) (seconds file) (table_passes file keeps)
      (obligation (statements file) (goal file) ∷ [])
      (in_table file keeps) (steps file) ((is_carried R file).1 p)
      ∙ append-nil (lines p.derivation)
