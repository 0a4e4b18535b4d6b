-- A record is granted exactly when it keeps the layout and its limits, its words are a proof of its goal and its
-- signers fit the lent list (specs/Promises.antt, `GrantedExactly`). Assumes nothing.
use Prim.Native.Nat.{ℕ}
use mathlib.Core.Bool.{Bool}
use mathlib.Core.Path.{ap, ◌∙◌}
use mathlib.Core.List.{[], ◌∷◌}
use lib.ListN.{length}
use Rattle.basics.specs.Limits.{most_depth}
use Rattle.basics.proofs.Refusals.{passed_by_all}
use Rattle.logic.specs.Principals.{Relation, Decides}
use Rattle.steps.specs.Verdict.{Closed}
use Rattle.steps.specs.Obligation.{obligation}
use Rattle.steps.proofs.Closed.{closed_uses_all}
use Rattle.record.specs.Layout.{goal, statements, steps, table}
use Rattle.record.specs.Answer.{tests}
use Rattle.record.specs.Promises.{GrantedExactly}
use Rattle.record.proofs.Answered.{answer_granted}
use Rattle.record.proofs.Keeps.{none_applies}
use Rattle.record.proofs.IsProof.{closes_on_proof}

pub granted_exactly :
    (speaks : ℕ → ℕ → Bool) (R : Relation) → Decides speaks R → GrantedExactly speaks R
granted_exactly speaks R decides file room count =
    let (to, from) = answer_granted speaks file room count in
    let (pass, passes) = passed_by_all (tests speaks file room) in
    let (none, applies) = none_applies speaks file room in
    let owed = obligation (statements file) (goal file) ∷ [] in (
      λ e.
          let (passed, counted) = to e in
          let (keeps, fits, (q, closed)) = none (pass passed) in
          let used = closed_uses_all speaks most_depth (table file) owed (steps file) q closed in
          let proof = (closes_on_proof speaks R decides file keeps).0 (closed ∙ ap Closed used) in
          record { keeps = keeps; is_proof = proof; fits = fits; counted = counted },
      λ r.
          let closed = (closes_on_proof speaks R decides file r.keeps).1 r.is_proof in
          from (passes (applies (r.keeps, r.fits, (length (steps file), closed))), r.counted),
    )
