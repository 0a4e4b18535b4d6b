-- Derivations of one step: init and false left, and no other rule. Assumes nothing.
use Prim.Native.Nat.{ℕ, suc, ◌≤◌}
use native.Mathlib.Omega.{arith}
use mathlib.Core.Path.{◌≡◌, refl, sym, subst}
use mathlib.Core.Logic.{inl, inr, ⊎_elim}
use mathlib.Core.List.{List}
use Rattle.logic.specs.Proposition.{Proposition}
use Rattle.logic.specs.Judgment.{Judgment}
use Rattle.logic.specs.Principals.{Relation}
use Rattle.logic.specs.Derivation.{Derivation, init, affirm, implies_right, implies_left, false_left, and_right, and_left, or_right_first, or_right_second, or_left, says_right, says_left}
use Rattle.logic.specs.Depth.{depth, DerivationOfDepth}
use Rattle.logic.specs.OneStep.{InOneStep, OneStep}
use Rattle.logic.proofs.Depth.{depth_positive}

module _ {R : Relation} where
  -- a step with a premise is not the only one
  not_alone : {Γ : List Proposition} {γ : Judgment} {h : ℕ} {T : Type 0} (D : Derivation R Γ γ) → suc h ≡ 1 → depth D ≤ h → T
  not_alone D e p = absurd (omega (arith, depth_positive D))

  one_step_rules : {Γ : List Proposition} {γ : Judgment} (D : Derivation R Γ γ) → depth D ≡ 1 → InOneStep Γ γ
  one_step_rules (init {a = a} m) e = inl (a, refl, m)
  one_step_rules (affirm D) e = not_alone D e (omega arith)
  one_step_rules (implies_right D) e = not_alone D e (omega arith)
  one_step_rules (implies_left m D E) e = not_alone D e (omega arith)
  one_step_rules (false_left m) e = inr m
  one_step_rules (and_right D E) e = not_alone D e (omega arith)
  one_step_rules (and_left m D) e = not_alone D e (omega arith)
  one_step_rules (or_right_first D) e = not_alone D e (omega arith)
  one_step_rules (or_right_second D) e = not_alone D e (omega arith)
  one_step_rules (or_left m D E) e = not_alone D e (omega arith)
  one_step_rules (says_right D) e = not_alone D e (omega arith)
  one_step_rules (says_left m r D) e = not_alone D e (omega arith)

  pub one_step : OneStep R
  one_step Γ γ = (
    λ (D, e). one_step_rules D e,
    ⊎_elim (λ (a, e, m). subst (λ δ. DerivationOfDepth R Γ δ 1) (sym e) (init m, refl)) (λ m. (false_left m, refl)),
  )
