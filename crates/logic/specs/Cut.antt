-- 003, Theorem 2, parts 2, 4 and 5. Proved in proofs/Identity.antt, for every reflexive relation on principals, and
-- proofs/Cut.antt, for every transitive one (affirmation cut: reflexive and transitive). Assumes nothing.
use Rattle.std.specs.Prelude.{List, ◌∷◌}
use Rattle.basics.specs.Membership.{◌∈◌}
use Rattle.logic.specs.Proposition.{Proposition, Principal}
use Rattle.logic.specs.Judgment.{Judgment, truth, ◌affirms◌}
use Rattle.logic.specs.Principals.{Relation}
use Rattle.logic.specs.Derivation.{Derivation}

module _ (R : Relation) where
  -- Part 2: Γ, A ⟹ A for any proposition A
  abbrev pub Identity : Type 0
  Identity = (Γ : List Proposition) (A : Proposition) → A ∈ Γ → Derivation R Γ (truth A)

  -- Part 4: if Γ ⟹ A and Γ, A ⟹ γ then Γ ⟹ γ
  abbrev pub CutAt : Proposition → Type 0
  CutAt A = (Γ : List Proposition) (γ : Judgment) → Derivation R Γ (truth A) → Derivation R (A ∷ Γ) γ → Derivation R Γ γ

  abbrev pub Cut : Type 0
  Cut = (A : Proposition) → CutAt A

  -- Part 5: if Γ ⟹ K affirms A and Γ, A ⟹ K affirms C then Γ ⟹ K affirms C
  abbrev pub AffirmationCut : Type 0
  AffirmationCut =
      (Γ : List Proposition) (K : Principal) (A C : Proposition)
      → Derivation R Γ (K affirms A) → Derivation R (A ∷ Γ) (K affirms C) → Derivation R Γ (K affirms C)
