-- "Then each proof of the goal is also one, step by step, after K's statements are taken out or exchanged for other
-- statements of K within the limits. This holds for formulas of every depth." (02, job 5) Over propositions and
-- derivations of any size, for every relation on principals. Proved in proofs/SameProofs.antt. Assumes nothing.
use Rattle.std.specs.Prelude.{◌≡◌, ◌↔◌, List}
use Rattle.basics.specs.Membership.{◌∈◌}
use Rattle.logic.specs.Proposition.{Proposition, Principal, ◌says◌}
use Rattle.logic.specs.Judgment.{Judgment, truth}
use Rattle.logic.specs.Principals.{Relation}
use Rattle.logic.specs.Derivation.{Derivation}
use Rattle.logic.specs.Depth.{step_depths}
use Rattle.logic.specs.Force.{HasProof}
use Rattle.logic.specs.Named.{says_left_names}
use Rattle.logic.specs.Signed.{SignedBy, Himself}
use Rattle.logic.specs.Sides.{Independent}
use Rattle.steps.specs.Trace.{lines}

-- Δ has each statement of Γ that isn't itself K says something. What it has besides is free: statements of K, other
-- ones than Γ has or the same, or none.
abbrev pub HasOthers : Principal → List Proposition → List Proposition → Type 0
HasOthers K Γ Δ = (A : Proposition) → A ∈ Γ → ¬ SignedBy (Himself K) A → A ∈ Δ

-- "step by step": a derivation from Δ with the steps of D, one by one: the same rule, the same named formula, the same
-- goal, and the same depth.
pub record SameSteps {R : Relation} {Γ : List Proposition} {γ : Judgment}
    (Δ : List Proposition) (D : Derivation R Γ γ) : Type 0 where
  pub derivation : Derivation R Δ γ
  pub same_lines : lines derivation ≡ lines D
  pub same_depths : step_depths 1 derivation ≡ step_depths 1 D

module _ (R : Relation) where
  abbrev pub SameProofs : Type 0
  SameProofs =
      (K : Principal) (Γ Δ : List Proposition) (C : Proposition) → Independent R K Γ C → HasOthers K Γ Δ
      → (D : Derivation R Γ (truth C)) → SameSteps Δ D

  -- So where each of two lists has the statements of the other but for K's, the goal has a proof from both or from
  -- neither.
  abbrev pub BothOrNeither : Type 0
  BothOrNeither =
      (K : Principal) (Γ Δ : List Proposition) (C : Proposition) → Independent R K Γ C → HasOthers K Γ Δ
      → HasOthers K Δ Γ → HasProof R Γ C ↔ HasProof R Δ C

  -- And no says left names a says-formula of K, a paper or not.
  abbrev pub NeverOpened : Type 0
  NeverOpened =
      (K : Principal) (Γ : List Proposition) (C : Proposition) → Independent R K Γ C
      → (D : Derivation R Γ (truth C)) (A : Proposition) → ¬ ((K says A) ∈ says_left_names D)
