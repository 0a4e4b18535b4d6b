-- Depth. "The first step has depth 1, a premise's step one more than its conclusion's" (01). A derivation is as deep as
-- its deepest step. Assumes nothing.
use Rattle.std.specs.Prelude.{ℕ, suc, max, ◌≤◌, ◌≡◌, ◌↔◌, List, [], ◌∷◌, ◌++◌}
use Rattle.basics.specs.Membership.{◌∈◌}
use Rattle.logic.specs.Proposition.{Proposition}
use Rattle.logic.specs.Judgment.{Judgment}
use Rattle.logic.specs.Principals.{Relation}
use Rattle.logic.specs.Derivation.{Derivation, init, affirm, implies_right, implies_left, false_left, and_right, and_left, or_right_first, or_right_second, or_left, says_right, says_left}

module _ {R : Relation} where
  abbrev pub depth : {Γ : List Proposition} {γ : Judgment} → Derivation R Γ γ → ℕ
  depth (init m) = 1
  depth (affirm D) = suc (depth D)
  depth (implies_right D) = suc (depth D)
  depth (implies_left m D E) = suc (max (depth D) (depth E))
  depth (false_left m) = 1
  depth (and_right D E) = suc (max (depth D) (depth E))
  depth (and_left m D) = suc (depth D)
  depth (or_right_first D) = suc (depth D)
  depth (or_right_second D) = suc (depth D)
  depth (or_left m D E) = suc (max (depth D) (depth E))
  depth (says_right D) = suc (depth D)
  depth (says_left m r D) = suc (depth D)

  -- The depths of the steps, one by one, where the first has depth d: "each step is followed by all of its first
  -- premise, then its second".
  abbrev pub step_depths : {Γ : List Proposition} {γ : Judgment} → ℕ → Derivation R Γ γ → List ℕ
  step_depths d (init m) = d ∷ []
  step_depths d (affirm D) = d ∷ step_depths (suc d) D
  step_depths d (implies_right D) = d ∷ step_depths (suc d) D
  step_depths d (implies_left m D E) = d ∷ (step_depths (suc d) D ++ step_depths (suc d) E)
  step_depths d (false_left m) = d ∷ []
  step_depths d (and_right D E) = d ∷ (step_depths (suc d) D ++ step_depths (suc d) E)
  step_depths d (and_left m D) = d ∷ step_depths (suc d) D
  step_depths d (or_right_first D) = d ∷ step_depths (suc d) D
  step_depths d (or_right_second D) = d ∷ step_depths (suc d) D
  step_depths d (or_left m D E) = d ∷ (step_depths (suc d) D ++ step_depths (suc d) E)
  step_depths d (says_right D) = d ∷ step_depths (suc d) D
  step_depths d (says_left m r D) = d ∷ step_depths (suc d) D

-- A derivation, and its depth is d.
abbrev pub DerivationOfDepth : Relation → List Proposition → Judgment → ℕ → Type 0
DerivationOfDepth R Γ γ d = (D : Derivation R Γ γ) × (depth D ≡ d)

-- A derivation is at most n deep exactly when none of its steps is deeper than n. Proved in proofs/Depth.antt.
abbrev pub DepthOfSteps : Relation → Type 0
DepthOfSteps R =
    (Γ : List Proposition) (γ : Judgment) (D : Derivation R Γ γ) (n : ℕ) → depth D ≤ n ↔ ((d : ℕ) → d ∈ step_depths 1 D → d ≤ n)
