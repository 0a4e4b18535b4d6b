-- The two rules without premises, for every relation on principals: init is on atoms alone, and false left serves every
-- goal. Proved in proofs/OneStep.antt. Assumes nothing.
use Rattle.std.specs.Prelude.{◌≡◌, List, ◌↔◌, ◌⊎◌}
use Rattle.basics.specs.Membership.{◌∈◌}
use Rattle.logic.specs.Proposition.{Proposition, Atom, atom, false}
use Rattle.logic.specs.Judgment.{Judgment, truth}
use Rattle.logic.specs.Principals.{Relation}
use Rattle.logic.specs.Depth.{DerivationOfDepth}

-- The goal is the truth of an atom that is a hypothesis, or false is a hypothesis.
abbrev pub InOneStep : List Proposition → Judgment → Type 0
InOneStep Γ γ = ((a : Atom) × (γ ≡ truth (atom a)) × (atom a ∈ Γ)) ⊎ (false ∈ Γ)

abbrev pub OneStep : Relation → Type 0
OneStep R = (Γ : List Proposition) (γ : Judgment) → DerivationOfDepth R Γ γ 1 ↔ InOneStep Γ γ
