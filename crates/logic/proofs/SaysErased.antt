-- A reading of propositions: some atoms hold, and K says A holds where A does. What has a proof from statements that
-- hold, holds too (`sound`). For every relation on principals. Assumes nothing.
use mathlib.Core.Logic.{◌⊎◌, inl, inr, ⊎_elim}
use mathlib.Core.List.{List}
use Rattle.basics.specs.Membership.{◌∈◌}
use Rattle.basics.proofs.Membership.{each_of_more}
use Rattle.logic.specs.Proposition.{Proposition, Atom, atom, false, ◌implies◌, ◌and◌, ◌or◌, ◌says◌}
use Rattle.logic.specs.Judgment.{Judgment, truth, ◌affirms◌}
use Rattle.logic.specs.Principals.{Relation}
use Rattle.logic.specs.Derivation.{Derivation, init, affirm, implies_right, implies_left, false_left, and_right, and_left, or_right_first, or_right_second, or_left, says_right, says_left}

module _ (T : Atom → Type 0) where
  abbrev pub Holds : Proposition → Type 0
  Holds (atom a) = T a
  Holds false = ⊥
  Holds (A implies B) = Holds A → Holds B
  Holds (A and B) = Holds A × Holds B
  Holds (A or B) = Holds A ⊎ Holds B
  Holds (K says A) = Holds A

  abbrev pub HoldsGoal : Judgment → Type 0
  HoldsGoal (truth A) = Holds A
  HoldsGoal (K affirms A) = Holds A

  abbrev pub AllHold : List Proposition → Type 0
  AllHold Γ = (A : Proposition) → A ∈ Γ → Holds A

  pub sound : {R : Relation} {Γ : List Proposition} {γ : Judgment} → Derivation R Γ γ → AllHold Γ → HoldsGoal γ
  sound (init m) all = all _ m
  sound (affirm D) all = sound D all
  sound (implies_right D) all = λ t. sound D (each_of_more Holds t all)
  sound (implies_left m D E) all = sound E (each_of_more Holds (all _ m (sound D all)) all)
  sound (false_left m) all = absurd (all _ m)
  sound (and_right D E) all = (sound D all, sound E all)
  sound (and_left m D) all = sound D (each_of_more Holds (all _ m).0 (each_of_more Holds (all _ m).1 all))
  sound (or_right_first D) all = inl (sound D all)
  sound (or_right_second D) all = inr (sound D all)
  sound (or_left m D E) all =
      ⊎_elim (λ t. sound D (each_of_more Holds t all)) (λ t. sound E (each_of_more Holds t all)) (all _ m)
  sound (says_right D) all = sound D all
  sound (says_left m r D) all = sound D (each_of_more Holds (all _ m) all)
