-- Lists exchanged part by part (specs/Parts.antt): one part, and then the others. Assumes nothing.
use mathlib.Core.Path.{refl}
use mathlib.Core.Logic.Iff
use mathlib.Core.List.{[], ◌∷◌}
use Rattle.basics.proofs.Membership.{first, added}
use Rattle.logic.specs.Principals.{Relation, Reflexive, Transitive}
use Rattle.logic.specs.Parts.{joined_first, joined_second, PartsAre, ForceInParts}
use Rattle.logic.proofs.Force.{force_of_both}

pub parts_are : PartsAre
parts_are Γ Δ Θ Λ = (refl, refl)

pub force_in_parts : {R : Relation} → Reflexive R → Transitive R → ForceInParts R
force_in_parts reflexive transitive [] each = λ A. Iff.rfl
force_in_parts reflexive transitive (p ∷ parts) each =
    force_of_both reflexive transitive p.first p.second (joined_first parts) (joined_second parts) (each p first)
    (force_in_parts reflexive transitive parts (λ q i. each q (added p q i)))
