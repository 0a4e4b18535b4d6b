-- What is promised of hypotheses, for every relation on principals. Proved in proofs/Structural.antt. Assumes nothing.
use Rattle.std.specs.Prelude.{ℕ, List, ◌∷◌, ◌++◌, ◌↔◌}
use Rattle.basics.specs.Membership.{◌∈◌, ◌⊆◌}
use Rattle.logic.specs.Proposition.{Proposition}
use Rattle.logic.specs.Judgment.{Judgment}
use Rattle.logic.specs.Principals.{Relation}
use Rattle.logic.specs.Depth.{DerivationOfDepth}

module _ (R : Relation) where
  -- 003, Theorem 2, part 1: along any inclusion, and at the same depth
  abbrev pub Weakening : Type 0
  Weakening = (Γ Δ : List Proposition) (γ : Judgment) (d : ℕ) → Γ ⊆ Δ → DerivationOfDepth R Γ γ d → DerivationOfDepth R Δ γ d

  -- "Hypotheses .. form a set": lists with the same members derive the same.
  abbrev pub OneSet : Type 0
  OneSet = (Γ Δ : List Proposition) (γ : Judgment) (d : ℕ) → Γ ⊆ Δ → Δ ⊆ Γ → DerivationOfDepth R Γ γ d ↔ DerivationOfDepth R Δ γ d

  -- "A statement that stands twice is one hypothesis", wherever in the list it stands.
  abbrev pub TwiceIsOnce : Type 0
  TwiceIsOnce =
      (Γ Δ : List Proposition) (A : Proposition) (γ : Judgment) (d : ℕ)
      → A ∈ Γ ++ Δ → DerivationOfDepth R (Γ ++ A ∷ Δ) γ d ↔ DerivationOfDepth R (Γ ++ Δ) γ d
