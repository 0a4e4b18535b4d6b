-- The first half of cut: a derivation is followed up to the right rule of its goal. `bind` hands what that rule was
-- given to a continuation, and what the continuation derives is derived below, since left rules serve every goal. Says
-- left serves affirmations only, those by principals for whom K speaks: so an affirmation leads to such an affirmation,
-- and this is where transitivity is used. Assumes nothing.
use mathlib.Core.List.{List, ◌∷◌}
use mathlib.Core.Logic.{◌⊎◌, inl, inr}
use Rattle.basics.specs.Membership.{◌∈◌, ◌⊆◌}
use Rattle.basics.proofs.Membership.{⊆_refl, ⊆_trans, added}
use Rattle.logic.specs.Proposition.{Proposition, Principal, atom, false, ◌implies◌, ◌and◌, ◌or◌, ◌says◌}
use Rattle.logic.specs.Judgment.{Judgment, truth, ◌affirms◌}
use Rattle.logic.specs.Principals.{Relation, Transitive}
use Rattle.logic.specs.Derivation.{Derivation, init, affirm, implies_right, implies_left, false_left, and_right, and_left, or_right_first, or_right_second, or_left, says_right, says_left}

module _ (R : Relation) where
  -- what the right rule of a judgment is given
  abbrev pub Introduced : List Proposition → Judgment → Type 0
  Introduced Γ (truth (atom a)) = atom a ∈ Γ
  Introduced Γ (truth false) = ⊥
  Introduced Γ (truth (A implies B)) = Derivation R (A ∷ Γ) (truth B)
  Introduced Γ (truth (A and B)) = Derivation R Γ (truth A) × Derivation R Γ (truth B)
  Introduced Γ (truth (A or B)) = Derivation R Γ (truth A) ⊎ Derivation R Γ (truth B)
  Introduced Γ (truth (K says A)) = Derivation R Γ (K affirms A)
  Introduced Γ (K affirms A) = Derivation R Γ (truth A)

  -- the goals that a judgment serves: a truth serves all, an affirmation by K those by whomever K speaks for
  abbrev pub Serves : Judgment → Judgment → Type 0
  Serves (truth A) γ = Unit
  Serves (K affirms A) (truth C) = ⊥
  Serves (K affirms A) (L affirms C) = R K L

-- a continuation from Γ goes on from more hypotheses
further : {Γ : List Proposition} {A : Proposition} {T : List Proposition → Type 0}
    → ((Δ : List Proposition) → Γ ⊆ Δ → T Δ) → (Δ : List Proposition) → A ∷ Γ ⊆ Δ → T Δ
further k Δ i = k Δ (⊆_trans (added _) i)

module _ {R : Relation} (transitive : Transitive R) where
  -- says left towards every goal that an affirmation by L serves
  says_left_towards : {Γ : List Proposition} {K L : Principal} {A : Proposition} (C : Proposition) (γ : Judgment)
      → K says A ∈ Γ → R K L → Serves R (L affirms C) γ → Derivation R (A ∷ Γ) γ → Derivation R Γ γ
  says_left_towards C (truth B) m r s D = absurd s
  says_left_towards C (M affirms B) m r s D = says_left m (transitive _ _ M r s) D

  pub bind : {Γ : List Proposition} {γ γ' : Judgment} → Derivation R Γ γ → Serves R γ γ'
      → ((Δ : List Proposition) → Γ ⊆ Δ → Introduced R Δ γ → Derivation R Δ γ') → Derivation R Γ γ'
  bind (init m) s k = k _ ⊆_refl m
  bind (affirm D) s k = k _ ⊆_refl D
  bind (implies_right D) s k = k _ ⊆_refl D
  bind (implies_left m D E) s k = implies_left m D (bind E s (further k))
  bind (false_left m) s k = false_left m
  bind (and_right D E) s k = k _ ⊆_refl (D, E)
  bind (and_left m D) s k = and_left m (bind D s (further (further k)))
  bind (or_right_first D) s k = k _ ⊆_refl (inl D)
  bind (or_right_second D) s k = k _ ⊆_refl (inr D)
  bind (or_left m D E) s k = or_left m (bind D s (further k)) (bind E s (further k))
  bind (says_right D) s k = k _ ⊆_refl D
  bind {γ' = γ'} (says_left {C = C} m r D) s k = says_left_towards C γ' m r s (bind D s (further k))
