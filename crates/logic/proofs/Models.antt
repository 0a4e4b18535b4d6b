-- Derivations are sound in every model (specs/Models.antt): by induction on the derivation, at every world. Assumes
-- nothing.
use mathlib.Core.Logic.{inl, inr, ⊎_elim}
use mathlib.Core.List.{List, ◌∷◌}
use Rattle.basics.proofs.Membership.{each_of_more}
use Rattle.logic.specs.Proposition.{Proposition, atom, false, ◌implies◌, ◌and◌, ◌or◌, ◌says◌}
use Rattle.logic.specs.Judgment.{Judgment}
use Rattle.logic.specs.Principals.{Relation}
use Rattle.logic.specs.Derivation.{Derivation, init, affirm, implies_right, implies_left, false_left, and_right, and_left, or_right_first, or_right_second, or_left, says_right, says_left}
use Rattle.logic.specs.Models.{Model, Holds, HoldsGoal, AllHold, Sound, HoldsOn, SaysAll}

pub says_all : (R : Relation) → SaysAll R
says_all R M w K all A = λ v s. inl (all v s)

-- What speaks of every world seen from v speaks of every world seen from w; an atom stays true.
pub holds_on : (R : Relation) → HoldsOn R
holds_on R M v w (atom a) s h = M.stays_true v w a s h
holds_on R M v w false s h = h
holds_on R M v w (A implies B) s h = λ u t. h u (M.sees_on v w u s t)
holds_on R M v w (A and B) s (h, k) = (holds_on R M v w A s h, holds_on R M v w B s k)
holds_on R M v w (A or B) s (inl h) = inl (holds_on R M v w A s h)
holds_on R M v w (A or B) s (inr h) = inr (holds_on R M v w B s h)
holds_on R M v w (K says A) s h = λ u t. h u (M.sees_on v w u s t)

module _ {R : Relation} (M : Model R) where
  all_on : {Γ : List Proposition} (v w : M.World) → M.sees v w → AllHold M v Γ → AllHold M w Γ
  all_on v w s all A m = holds_on R M v w A s (all A m)

  -- the hypotheses of a premise that adds one
  and_this : {w : M.World} {A : Proposition} {Γ : List Proposition} → Holds M w A → AllHold M w Γ → AllHold M w (A ∷ Γ)
  and_this {w} = each_of_more (Holds M w)

  sound_at : {Γ : List Proposition} {γ : Judgment} → Derivation R Γ γ → (w : M.World) → AllHold M w Γ → HoldsGoal M w γ
  sound_at (init m) w all = all _ m
  sound_at (affirm D) w all = λ v s. inr (sound_at D v (all_on w v s all))
  sound_at (implies_right D) w all = λ v s h. sound_at D v (and_this h (all_on w v s all))
  sound_at (implies_left m D E) w all =
      sound_at E w (and_this (all _ m w (M.sees_itself w) (sound_at D w all)) all)
  sound_at (false_left m) w all = absurd (all _ m)
  sound_at (and_right D E) w all = (sound_at D w all, sound_at E w all)
  sound_at (and_left m D) w all = sound_at D w (and_this (all _ m).0 (and_this (all _ m).1 all))
  sound_at (or_right_first D) w all = inl (sound_at D w all)
  sound_at (or_right_second D) w all = inr (sound_at D w all)
  sound_at (or_left m D E) w all =
      ⊎_elim (λ h. sound_at D w (and_this h all)) (λ h. sound_at E w (and_this h all)) (all _ m)
  sound_at (says_right D) w all = sound_at D w all
  -- At a world seen, K says everything, and then so does L, for whom he speaks; or what K says holds there, and with it
  -- what L affirms.
  sound_at (says_left {K = K} {L = L} m r D) w all =
      λ v s.
      ⊎_elim (λ every. inl (M.passes_on v K L r every))
      (λ h. sound_at D v (and_this h (all_on w v s all)) v (M.sees_itself v)) (all _ m v s)

pub sound : (R : Relation) → Sound R
sound R M w Γ γ D = sound_at M D w
