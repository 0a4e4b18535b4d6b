-- 8 is for a record that a longer list would have granted (specs/Promises.antt, `EightExactly`). Assumes nothing.
use Prim.Native.Nat.{ℕ, ◌<◌}
use native.Mathlib.Omega.{arith}
use mathlib.Core.Bool.{Bool}
use mathlib.Core.Path.{◌≡◌, refl, ap, ◌∙◌}
use mathlib.Core.List.{List, [], ◌∷◌}
use lib.ListN.{length}
use lib.Dec.{ltb}
use borrow.Author.Tests.{lt-ltb}
use Rattle.std.specs.Prelude.{Err}
use Rattle.basics.specs.Limits.{most_depth}
use Rattle.basics.specs.Order.{FirstReason, checking_order}
use Rattle.basics.specs.Refusals.{test, at0}
use Rattle.basics.proofs.Order.{before_eight}
use Rattle.basics.proofs.Refusals.{passed_by_all, joined_passed, goes_on, applies_at_0}
use Rattle.file.proofs.Reasons.{layout_small}
use Rattle.table.proofs.Reasons.{entry_small}
use Rattle.logic.specs.Principals.{Relation, Decides}
use Rattle.steps.specs.Verdict.{WalkVerdict, Closed, Refused}
use Rattle.steps.specs.Obligation.{obligation}
use Rattle.steps.specs.Run.{walked}
use Rattle.steps.proofs.Closed.{closed_uses_all}
use Rattle.steps.proofs.Walked.{walked_nowhere}
use Rattle.record.specs.Layout.{goal, heads, seconds, statements, steps, table, signers}
use Rattle.record.specs.Answer.{step_verdict, tests_to7}
use Rattle.record.specs.Proof.{Keeps, IsProof}
use Rattle.record.specs.Reasons.{Reason, layout_broken, table_broken, goal_outside, statement_outside, stops, list_short}
use Rattle.record.specs.Promises.{EightExactly}
use Rattle.record.proofs.Answered.{answer_refused}
use Rattle.record.proofs.Keeps.{none_to_7}
use Rattle.record.proofs.IsProof.{closes_on_proof}
use Rattle.record.proofs.Reasons.{walk_stops, stop_small, step_number, reason_range, refused_exactly}
use Rattle.record.proofs.Kept.{keeps_exactly}

module _ (speaks : ℕ → ℕ → Bool) (R : Relation) (decides : Decides speaks R) (file : List ℕ) (room : ℕ) where
  -- No other reason has the number 8.
  only_short : (p : ℕ) → Reason speaks file room 8 p → (p ≡ 0) × (room < length (signers file))
  only_short p (layout_broken r) = let (_, most, _) = layout_small r in absurd (omega arith)
  only_short p (table_broken r) =
      let (_, most, _) = entry_small (heads file) (seconds file) 8 p r in absurd (omega arith)
  only_short p (goal_outside n z l) = absurd (omega arith)
  only_short p (statement_outside n is) = absurd (omega arith)
  only_short p (stops s) = let (least, _, _) = stop_small speaks file 8 p s in absurd (omega arith)
  only_short p (list_short n z l) = (z, l)

  -- Where 8 is the first reason, none of the others applies: not 1 to 7,
  module _ (p : ℕ) (r : FirstReason checking_order (Reason speaks file room) 8 p) where
    keeps : Keeps file
    keeps =
        (keeps_exactly speaks file room).1
        (λ n q few reason.
        let (least, _) = reason_range speaks file room n q reason in
        r.none_before n q ((before_eight n).1 (least, omega arith, λ e. omega arith)) reason)

    -- nor 9 to 15.
    is_proof : (v : WalkVerdict) → step_verdict speaks file ≡ v → IsProof R file
    is_proof (Closed q) e =
        let all = closed_uses_all speaks most_depth (table file) (obligation (statements file) (goal file) ∷ [])
        (steps file) q e in
        (closes_on_proof speaks R decides file keeps).0 (e ∙ ap Closed all)
    is_proof (Err r') e =
        let (least, most, _) = step_number speaks file r'.number r'.place e in
        let stands = (before_eight r'.number).1 (omega arith, most, λ is. omega arith) in
        absurd (r.none_before r'.number r'.place stands (stops ((walk_stops speaks file r'.number r'.place).0 e)))

pub eight_exactly :
    (speaks : ℕ → ℕ → Bool) (R : Relation) → Decides speaks R → EightExactly speaks R
eight_exactly speaks R decides file room p = (
  λ e.
      let r = (refused_exactly speaks file room 8 p).0 e in
      let (z, short) = only_short speaks R decides file room p r.applies in (
        z,
        keeps speaks R decides file room p r,
        is_proof speaks R decides file room p r
            (step_verdict speaks file) refl,
        short,
      ),
  λ (z, kept, proof, short).
      let passes = (passed_by_all (tests_to7 file)).1 ((none_to_7 file).1 kept) in
      let closed = (walked_nowhere (step_verdict speaks file)).1
      (length (steps file), (closes_on_proof speaks R decides file kept).1 proof) in
      let is-short = lt-ltb room (length (signers file)) short in
      let eight = test 8 (at0 (ltb room (length (signers file)))) ∷ [] in
      (answer_refused speaks file room 8 p).1
      (joined_passed (tests_to7 file) (walked (step_verdict speaks file) ∷ eight) passes
      ∙ goes_on (walked (step_verdict speaks file)).number eight closed
      ∙ rw z (applies_at_0 8 [] is-short)),
)
