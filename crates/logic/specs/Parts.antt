-- Lists exchanged part by part. Proved in proofs/Parts.antt, for every relation on principals that is reflexive and
-- transitive. Assumes nothing.
use Rattle.std.specs.Prelude.{◌≡◌, List, [], ◌∷◌, ◌++◌}
use Rattle.basics.specs.Membership.{◌∈◌}
use Rattle.logic.specs.Proposition.{Proposition}
use Rattle.logic.specs.Principals.{Relation}
use Rattle.logic.specs.Force.{EqualInForce}

-- two lists, the first of them to be exchanged for the second
pub record Part : Type 0 where
  pub first : List Proposition
  pub second : List Proposition

-- all first lists joined, and all second ones
abbrev pub joined_first : List Part → List Proposition
joined_first [] = []
joined_first (p ∷ parts) = p.first ++ joined_first parts

abbrev pub joined_second : List Part → List Proposition
joined_second [] = []
joined_second (p ∷ parts) = p.second ++ joined_second parts

abbrev pub PartsAre : Type 0
PartsAre =
    (Γ Δ Θ Λ : List Proposition)
    → (joined_first (record { first = Γ; second = Δ } ∷ record { first = Θ; second = Λ } ∷ []) ≡ Γ ++ (Θ ++ []))
    × (joined_second (record { first = Γ; second = Δ } ∷ record { first = Θ; second = Λ } ∷ []) ≡ Δ ++ (Λ ++ []))

-- Parts, each of equal force, make joined lists of equal force.
abbrev pub ForceInParts : Relation → Type 0
ForceInParts R =
    (parts : List Part) → ((p : Part) → p ∈ parts → EqualInForce R p.first p.second)
    → EqualInForce R (joined_first parts) (joined_second parts)
