-- What is released has a proof within the limits, and only that (specs/Record.antt, `ReleasedExactly`). Assumes
-- nothing.
use Prim.Native.Nat.{ℕ, ◌<◌, ◌≤◌}
use native.Mathlib.Omega.{arith}
use mathlib.Core.Bool.{Bool}
use mathlib.Core.Path.{ap, subst, ap₂}
use mathlib.Core.Logic.{⊎_elim}
use mathlib.Core.List.Memᴰ
use mathlib.Core.List.{List, ◌∷◌}
use lib.ListN.{length, length-map}
use Rattle.basics.specs.Membership.{◌∈◌}
use Rattle.basics.specs.Limits.{most_formulas}
use Rattle.logic.specs.Proposition.{Proposition}
use Rattle.logic.specs.Judgment.{truth}
use Rattle.logic.specs.Principals.{Relation, Decides}
use Rattle.logic.specs.Derivation.{Derivation}
use Rattle.logic.specs.Depth.{step_depths}
use Rattle.table.specs.Spelled.{spell}
use Rattle.table.specs.Number.{number}
use Rattle.steps.specs.Words.{words}
use Rattle.file.proofs.LayoutLaws.{part_most}
use Rattle.record.specs.Layout.{record_layout, goal, heads, seconds, statements, table, signers}
use Rattle.record.specs.Proof.{stated_by, goal_of}
use Rattle.record.specs.Promises.{GrantSays}
use Rattle.record.proofs.Lengths.{length_table}
use Rattle.record.proofs.Granted.{granted_exactly}
use Rattle.encoding.specs.Bounds.{FewFormulas}
use Rattle.encoding.specs.Record.{Within, Released, ReleasedExactly}
use Rattle.encoding.proofs.Position.{member_of}
use Rattle.encoding.proofs.Steps.{Steps, steps}
use Rattle.encoding.proofs.Renamed.{Renamed, renamed}
use Rattle.encoding.proofs.Spelt as Spelt
use Rattle.encoding.proofs.Spelt.{number_most}
use Rattle.encoding.proofs.Record.{every_proof_has_a_record}

module _ (speaks : ℕ → ℕ → Bool) (R : Relation) (decides : Decides speaks R) where
  module _ {Γ : List Proposition} {A : Proposition} (r : Released speaks Γ A) where
    abbrev file : List ℕ
    file = r.file

    grant : GrantSays R file r.room r.count
    grant = (granted_exactly speaks R decides file r.room r.count).0 r.granted

    -- all numbers are below F
    below : (n : ℕ) → n ∈ goal file ∷ statements file → n < length (table file)
    below n m =
        let sized = length_table file grant.keeps.sized in
        let goal_in = grant.keeps.goal_in in
        ⊎_elim (λ e. omega arith) (λ stands. omega (arith, grant.keeps.statements_in n stands))
        (Memᴰ.cases_cons m)

    few : length (table file) ≤ most_formulas
    few =
        let few = grant.keeps.sized.in_range.few_formulas in
        omega (arith, length_table file grant.keeps.sized)

    few_formulas : FewFormulas (A ∷ Γ)
    few_formulas =
        subst FewFormulas (ap₂ ◌∷◌ r.goal_is r.statements_are)
        (Spelt.few_formulas (heads file) (seconds file) grant.keeps.ordered few (goal file ∷ statements file) below)

    abbrev own : Derivation R (stated_by file) (truth (goal_of file))
    own = grant.is_proof.derivation

    own_steps : Steps (step_depths 1 own) (words (number (table file)) own)
    own_steps = steps (number (table file)) (number_most (table file) few) 1 own

    its_proof : Renamed own Γ A
    its_proof = renamed own r.statements_are r.goal_is

    is_within : Within its_proof.derivation
    is_within = record {
      few_formulas = few_formulas;
      few_statements =
          let few = grant.keeps.sized.in_range.few_statements in
          let all = ap length r.statements_are in
          omega (arith, length-map (statements file) (spell (table file)), part_most record_layout file 2);
      few_steps =
          let few = grant.keeps.sized.in_range.few_steps in
          let own = ap length its_proof.same_depths in
          let all = ap length grant.is_proof.words in
          omega (arith, own_steps.as_many, part_most record_layout file 3);
      not_deep = λ d m. grant.is_proof.within d (member_of its_proof.same_depths m);
    }

  pub released_exactly : ReleasedExactly speaks R
  released_exactly Γ A = (
    λ (D, within).
        let (file, is) = every_proof_has_a_record speaks R decides Γ A D within in
        let count = length (signers file) in
        record {
          file = file;
          bytes = is.bytes;
          goal_is = is.goal_is;
          statements_are = is.statements_are;
          room = count;
          count = count;
          granted = is.granted count (omega arith);
        },
    λ r. ((its_proof r).derivation, is_within r),
  )
