-- Demand 3's theorem: equal in force exactly when each statement of either list has a proof from the other. By identity
-- one way, by a cut at each statement the other way. Assumes nothing.
use mathlib.Core.Logic.Iff
use mathlib.Core.Logic.{⊎_elim}
use mathlib.Core.List.Memᴰ
use mathlib.Core.List.{List, [], ◌∷◌, ◌++◌}
use Rattle.basics.proofs.Membership.{first, added, ⊆_left, ⊆_right, each_of_none, each_of_more}
use Rattle.logic.specs.Proposition.{Proposition}
use Rattle.logic.specs.Judgment.{Judgment}
use Rattle.logic.specs.Principals.{Relation, Reflexive, Transitive}
use Rattle.logic.specs.Derivation.{Derivation}
use Rattle.logic.specs.Force.{HasProof, EqualInForce, EachHasProof, ForceByStatements, ForceJoined, ReleaseKept, AnyReleaseKept}
use Rattle.logic.proofs.Structural.{weaken}
use Rattle.logic.proofs.Identity.{identity}
use Rattle.logic.proofs.Cut.{cut}

-- a list of proofs, a statement each
module _ {R : Relation} (Δ : List Proposition) where
  pub each_nil : EachHasProof R [] Δ
  each_nil = each_of_none (HasProof R Δ)

  pub each_cons : {A : Proposition} {Γ : List Proposition} → HasProof R Δ A → EachHasProof R Γ Δ → EachHasProof R (A ∷ Γ) Δ
  each_cons = each_of_more (HasProof R Δ)

module _ {R : Relation} (reflexive : Reflexive R) (transitive : Transitive R) where
  -- hypotheses that the others prove may go
  drop_proved : (Γ : List Proposition) {Δ : List Proposition} {γ : Judgment} → EachHasProof R Γ Δ → Derivation R (Γ ++ Δ) γ → Derivation R Δ γ
  drop_proved [] proofs D = D
  drop_proved (A ∷ Γ) {Δ} {γ} proofs D =
      drop_proved Γ (λ B i. proofs B (added A B i)) (cut transitive A (Γ ++ Δ) γ (weaken (⊆_right Γ) (proofs A first)) D)

  -- what the first list derives, every list that proves its statements derives
  pub cut_all : {Γ Δ : List Proposition} {γ : Judgment} → EachHasProof R Γ Δ → Derivation R Γ γ → Derivation R Δ γ
  cut_all {Γ} {Δ} proofs D = drop_proved Γ proofs (weaken (⊆_left Δ) D)

  pub force_by_statements : ForceByStatements R
  force_by_statements Γ Δ = (
    λ f. (λ A i. (f A).0 (identity reflexive Γ A i), λ A i. (f A).1 (identity reflexive Δ A i)),
    λ (there, back) A. (cut_all there, cut_all back),
  )

  -- a proof of each statement stays one when lists join, and so lists of equal force make such
  each_of_both : (Γ Γ' Δ Δ' : List Proposition) → EachHasProof R Γ Γ' → EachHasProof R Δ Δ'
      → EachHasProof R (Γ ++ Δ) (Γ' ++ Δ')
  each_of_both Γ Γ' Δ Δ' f g A i =
      ⊎_elim (λ j. weaken (⊆_left Δ') (f A j)) (λ j. weaken (⊆_right Γ') (g A j)) (Memᴰ.append_cases Γ i)

  pub force_of_both : (Γ Γ' Δ Δ' : List Proposition) → EqualInForce R Γ Γ' → EqualInForce R Δ Δ'
      → EqualInForce R (Γ ++ Δ) (Γ' ++ Δ')
  force_of_both Γ Γ' Δ Δ' f g =
      let (a, b) = (force_by_statements Γ Γ').0 f in
      let (c, d) = (force_by_statements Δ Δ').0 g in
      (force_by_statements (Γ ++ Δ) (Γ' ++ Δ')).1 (each_of_both Γ Γ' Δ Δ' a c, each_of_both Γ' Γ Δ' Δ b d)

  pub force_joined : ForceJoined R
  force_joined Γ Δ Θ f = force_of_both Γ Δ Θ Θ f (λ A. Iff.rfl)

  pub release_kept : ReleaseKept R
  release_kept old new signed goal f = (force_joined old new signed f goal).0

  pub any_release_kept : AnyReleaseKept R
  any_release_kept old new signed statements goal f s D = release_kept old new signed goal f (weaken s D)
