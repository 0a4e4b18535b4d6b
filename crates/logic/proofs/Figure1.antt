-- The promises for Figure 1 of 003: equality is reflexive and transitive. `figure1.cut`, `figure1
-- .force-by-statements` and so on are what is cited from above. Assumes nothing.
use mathlib.Core.Path.{refl, subst, ap, ◌∙◌}
use Rattle.basics.specs.Membership.{◌∈◌}
use Rattle.logic.specs.Countermodels.{Supposition, PassesOn}
use Rattle.logic.specs.Figure1.{Same, Promised, NoProof, Substitution, ForceSubstituted}
use Rattle.logic.proofs.Promises.{for_every_relation}

pub figure1 : Promised
figure1 = for_every_relation Same (λ K. refl) (λ K L M p q. p ∙ q)

-- Nobody speaks for another, so whoever says everything does so for himself.
passes_on : (m : Supposition) → PassesOn Same m
passes_on m K L e i = subst (λ N. N ∈ m.principals) e i

pub no_proof : NoProof
no_proof m = figure1.no_proof m (passes_on m)

pub substitution : Substitution
substitution σ ρ = figure1.substitution σ ρ (λ K L e. ap ρ e)

pub force_substituted : ForceSubstituted
force_substituted σ ρ = figure1.force_substituted σ ρ (λ K L e. ap ρ e)
