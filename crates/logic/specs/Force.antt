-- The words of demand 3 as 01 explains them, at the end of "The exchange file", and what is promised. Proved in
-- proofs/Force.antt, for every relation on principals that is reflexive and transitive. Assumes nothing.
use Rattle.std.specs.Prelude.{List, ◌++◌, ◌↔◌}
use Rattle.basics.specs.Membership.{◌∈◌, ◌⊆◌}
use Rattle.logic.specs.Proposition.{Proposition}
use Rattle.logic.specs.Judgment.{truth}
use Rattle.logic.specs.Principals.{Relation}
use Rattle.logic.specs.Derivation.{Derivation}

module _ (R : Relation) where
  -- "A formula has a proof, of any size, from a list when a finite derivation by the rules, with no limit on steps or
  -- depth, has the formula's truth as goal and the list's statements as hypotheses." (01)
  abbrev pub HasProof : List Proposition → Proposition → Type 0
  HasProof Γ A = Derivation R Γ (truth A)

  -- "Equal in force means that every formula, in the table or not, with a proof of any size from one list has a proof
  -- of any size from the other." (Demand 3)
  abbrev pub EqualInForce : List Proposition → List Proposition → Type 0
  EqualInForce Γ Δ = (A : Proposition) → HasProof Γ A ↔ HasProof Δ A

  -- Each statement of the first list has a proof from the second.
  abbrev pub EachHasProof : List Proposition → List Proposition → Type 0
  EachHasProof Γ Δ = (A : Proposition) → A ∈ Γ → HasProof Δ A

  -- "Any two lists of statements .., of whatever length, are equal in force exactly when each statement of either list
  -- has a proof, of any size, from the other." (Demand 3)
  abbrev pub ForceByStatements : Type 0
  ForceByStatements = (Γ Δ : List Proposition) → EqualInForce Γ Δ ↔ (EachHasProof Γ Δ × EachHasProof Δ Γ)

  -- Lists equal in force stay so when the same statements are appended to both.
  abbrev pub ForceJoined : Type 0
  ForceJoined = (Γ Δ Θ : List Proposition) → EqualInForce Γ Δ → EqualInForce (Γ ++ Θ) (Δ ++ Θ)

  -- "The goal of every old release must then keep a proof, of any size, from it and the same signed papers." (Demand 3)
  -- Old and new are the standing orders, before and after the exchange; signed are the papers.
  abbrev pub ReleaseKept : Type 0
  ReleaseKept =
      (old new signed : List Proposition) (goal : Proposition)
      → EqualInForce old new → HasProof (old ++ signed) goal → HasProof (new ++ signed) goal

  -- The same for a release that holds any of the old orders and of the signed papers, in any order.
  abbrev pub AnyReleaseKept : Type 0
  AnyReleaseKept =
      (old new signed statements : List Proposition) (goal : Proposition)
      → EqualInForce old new → statements ⊆ old ++ signed → HasProof statements goal → HasProof (new ++ signed) goal
