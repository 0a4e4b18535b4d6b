-- Weakening (003, Theorem 2, part 1), and what follows of it: hypotheses are a set. For every relation on principals.
-- Assumes nothing.
use Prim.Native.Nat.{suc, max}
use mathlib.Core.Path.{◌≡◌, refl, ap, ap₂, ◌∙◌}
use mathlib.Core.List.{List, ◌∷◌, ◌++◌}
use Rattle.basics.specs.Membership.{◌⊆◌}
use Rattle.basics.proofs.Membership.{extend, inserted, repeated}
use Rattle.logic.specs.Proposition.{Proposition}
use Rattle.logic.specs.Judgment.{Judgment}
use Rattle.logic.specs.Principals.{Relation}
use Rattle.logic.specs.Derivation.{Derivation, init, affirm, implies_right, implies_left, false_left, and_right, and_left, or_right_first, or_right_second, or_left, says_right, says_left}
use Rattle.logic.specs.Depth.{depth}
use Rattle.logic.specs.Structural.{Weakening, OneSet, TwiceIsOnce}

module _ {R : Relation} where
  -- the same steps, from more hypotheses
  unfoldable pub weaken : {Γ Δ : List Proposition} {γ : Judgment} → Γ ⊆ Δ → Derivation R Γ γ → Derivation R Δ γ
  weaken s (init m) = init (s _ m)
  weaken s (affirm D) = affirm (weaken s D)
  weaken s (implies_right D) = implies_right (weaken (extend _ s) D)
  weaken s (implies_left m D E) = implies_left (s _ m) (weaken s D) (weaken (extend _ s) E)
  weaken s (false_left m) = false_left (s _ m)
  weaken s (and_right D E) = and_right (weaken s D) (weaken s E)
  weaken s (and_left m D) = and_left (s _ m) (weaken (extend _ (extend _ s)) D)
  weaken s (or_right_first D) = or_right_first (weaken s D)
  weaken s (or_right_second D) = or_right_second (weaken s D)
  weaken s (or_left m D E) = or_left (s _ m) (weaken (extend _ s) D) (weaken (extend _ s) E)
  weaken s (says_right D) = says_right (weaken s D)
  weaken s (says_left m r D) = says_left (s _ m) r (weaken (extend _ s) D)

  pub weaken_depth : {Γ Δ : List Proposition} {γ : Judgment} (s : Γ ⊆ Δ) (D : Derivation R Γ γ) → depth (weaken s D) ≡ depth D
  unfolding weaken
  weaken_depth s (init m) = refl
  weaken_depth s (affirm D) = ap suc (weaken_depth s D)
  weaken_depth s (implies_right D) = ap suc (weaken_depth (extend _ s) D)
  weaken_depth s (implies_left m D E) = ap₂ (λ d e. suc (max d e)) (weaken_depth s D) (weaken_depth (extend _ s) E)
  weaken_depth s (false_left m) = refl
  weaken_depth s (and_right D E) = ap₂ (λ d e. suc (max d e)) (weaken_depth s D) (weaken_depth s E)
  weaken_depth s (and_left m D) = ap suc (weaken_depth (extend _ (extend _ s)) D)
  weaken_depth s (or_right_first D) = ap suc (weaken_depth s D)
  weaken_depth s (or_right_second D) = ap suc (weaken_depth s D)
  weaken_depth s (or_left m D E) = ap₂ (λ d e. suc (max d e)) (weaken_depth (extend _ s) D) (weaken_depth (extend _ s) E)
  weaken_depth s (says_right D) = ap suc (weaken_depth s D)
  weaken_depth s (says_left m r D) = ap suc (weaken_depth (extend _ s) D)

  pub weakening : Weakening R
  weakening Γ Δ γ d s (D, e) = (weaken s D, weaken_depth s D ∙ e)

  pub one_set : OneSet R
  one_set Γ Δ γ d s t = (weakening Γ Δ γ d s, weakening Δ Γ γ d t)

  pub twice_is_once : TwiceIsOnce R
  twice_is_once Γ Δ A γ d m = one_set (Γ ++ A ∷ Δ) (Γ ++ Δ) γ d (repeated Γ Δ A m) (inserted Γ Δ A)
