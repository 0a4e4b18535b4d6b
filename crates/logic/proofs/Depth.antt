-- A derivation is as deep as its deepest step. Three lemmas on lists of numbers, one for each count of premises, say
-- how the depths of the steps and the depth grow together. Assumes nothing.
use Prim.Native.Nat.{ℕ, suc, max, ◌+◌, ◌≤◌, ◌<◌}
use native.Mathlib.Omega.{arith}
use mathlib.Core.Logic.{⊎_elim}
use mathlib.Core.List.Memᴰ
use mathlib.Core.List.{List, [], ◌∷◌, ◌++◌}
use Rattle.basics.specs.Membership.{◌∈◌}
use Rattle.basics.proofs.Membership.{first, added, ⊆_left, ⊆_right}
use Rattle.logic.specs.Proposition.{Proposition}
use Rattle.logic.specs.Judgment.{Judgment}
use Rattle.logic.specs.Principals.{Relation}
use Rattle.logic.specs.Derivation.{Derivation, init, affirm, implies_right, implies_left, false_left, and_right, and_left, or_right_first, or_right_second, or_left, says_right, says_left}
use Rattle.logic.specs.Depth.{depth, step_depths, DepthOfSteps}

abbrev AtMost : ℕ → List ℕ → Type 0
AtMost n l = (d : ℕ) → d ∈ l → d ≤ n

-- the depths of the steps of something h deep whose first step has depth d
pub record Steps (d : ℕ) (l : List ℕ) (h : ℕ) : Type 0 where
  pub positive : 0 < h
  pub reach : (n : ℕ) → AtMost n l → d + h ≤ suc n
  pub bound : (n : ℕ) → d + h ≤ suc n → AtMost n l

no_premise : (d : ℕ) → Steps d (d ∷ []) 1
no_premise d = record {
  positive = omega arith;
  reach = λ n f. omega (arith, f d first);
  bound = λ n h e i. ⊎_elim (λ p. omega arith) (λ j. absurd (Memᴰ.not-nil j)) (Memᴰ.cases_cons i);
}

one_premise : (d : ℕ) (l : List ℕ) (h : ℕ) → Steps (suc d) l h → Steps d (d ∷ l) (suc h)
one_premise d l h s = record {
  positive = omega arith;
  reach = λ n f. omega (arith, s.reach n (λ e i. f e (added d e i)));
  bound = λ n b e i. ⊎_elim (λ p. omega arith) (s.bound n (omega arith) e) (Memᴰ.cases_cons i);
}

two_premises : (d : ℕ) (l m : List ℕ) (h k : ℕ) → Steps (suc d) l h → Steps (suc d) m k → Steps d (d ∷ (l ++ m)) (suc (max h k))
two_premises d l m h k s t = one_premise d (l ++ m) (max h k) (record {
  positive = omega (arith, s.positive);
  reach = λ n f. omega (arith, s.reach n (λ e i. f e (⊆_left m e i)), t.reach n (λ e i. f e (⊆_right l e i)));
  bound = λ n b e i. ⊎_elim (s.bound n (omega arith) e) (t.bound n (omega arith) e) (Memᴰ.append_cases l i);
})

module _ {R : Relation} where
  pub steps : {Γ : List Proposition} {γ : Judgment} (d : ℕ) (D : Derivation R Γ γ) → Steps d (step_depths d D) (depth D)
  steps d (init m) = no_premise d
  steps d (affirm D) = one_premise d _ _ (steps (suc d) D)
  steps d (implies_right D) = one_premise d _ _ (steps (suc d) D)
  steps d (implies_left m D E) = two_premises d _ _ _ _ (steps (suc d) D) (steps (suc d) E)
  steps d (false_left m) = no_premise d
  steps d (and_right D E) = two_premises d _ _ _ _ (steps (suc d) D) (steps (suc d) E)
  steps d (and_left m D) = one_premise d _ _ (steps (suc d) D)
  steps d (or_right_first D) = one_premise d _ _ (steps (suc d) D)
  steps d (or_right_second D) = one_premise d _ _ (steps (suc d) D)
  steps d (or_left m D E) = two_premises d _ _ _ _ (steps (suc d) D) (steps (suc d) E)
  steps d (says_right D) = one_premise d _ _ (steps (suc d) D)
  steps d (says_left m r D) = one_premise d _ _ (steps (suc d) D)

  -- every derivation has a first step
  pub depth_positive : {Γ : List Proposition} {γ : Judgment} (D : Derivation R Γ γ) → 0 < depth D
  depth_positive D = (steps 1 D).positive

  pub depth_of_steps : DepthOfSteps R
  depth_of_steps Γ γ D n = (λ h. (steps 1 D).bound n (omega arith), λ f. omega (arith, (steps 1 D).reach n f))
