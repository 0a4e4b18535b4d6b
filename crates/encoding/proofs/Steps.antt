-- The words of a derivation: as many as its steps, one at least, and each of 16 bits. Assumes nothing.
use Prim.Native.Nat.{ℕ, suc, ◌≤◌}
use native.Mathlib.Omega.{arith}
use mathlib.Core.Path.{◌≡◌, refl, ap}
use mathlib.Core.List.Memᴰ
use mathlib.Core.List.{List, [], ◌∷◌, ◌++◌}
use lib.ListN.{length, length-append}
use Rattle.basics.specs.Limits.{most_formulas}
use Rattle.logic.specs.Proposition.{Proposition, atom, false, ◌implies◌, ◌and◌, ◌or◌, ◌says◌}
use Rattle.logic.specs.Judgment.{Judgment}
use Rattle.logic.specs.Principals.{Relation}
use Rattle.logic.specs.Derivation.{Derivation, init, affirm, implies_right, implies_left, false_left, and_right, and_left, or_right_first, or_right_second, or_left, says_right, says_left}
use Rattle.logic.specs.Depth.{step_depths}
use Rattle.logic.proofs.Depth as Depth
use Rattle.steps.specs.Words.{words}
use Rattle.encoding.specs.Laid.{IsWord, AreWords}
use Rattle.encoding.proofs.Laid.{no_words, one_word, words_joined}

-- These can be the words of steps with these depths. No step, one more, and steps after others.
pub record Steps (depths ws : List ℕ) : Type 0 where
  pub as_many : length ws ≡ length depths
  pub are_words : AreWords ws

pub nothing : Steps [] []
nothing = record { as_many = refl; are_words = no_words }

one : {d w : ℕ} {depths ws : List ℕ} → IsWord w → Steps depths ws → Steps (d ∷ depths) (w ∷ ws)
one fits s = record { as_many = ap suc s.as_many; are_words = one_word fits s.are_words }

pub both : (ds es vs ws : List ℕ) → Steps ds vs → Steps es ws → Steps (ds ++ es) (vs ++ ws)
both ds es vs ws s t = record {
  as_many = omega (arith, length-append ds es, length-append vs ws, s.as_many, t.as_many);
  are_words = words_joined s.are_words t.are_words;
}

-- a code and the number of a formula make a word
module _ {R : Relation} (number : Proposition → ℕ) (most : (A : Proposition) → number A ≤ most_formulas) where
  pub steps : {Γ : List Proposition} {γ : Judgment} (d : ℕ) (D : Derivation R Γ γ)
      → Steps (step_depths d D) (words number D)
  steps d (init {a = a} m) = one (omega (arith, most (atom a))) nothing
  steps d (affirm D) = one (omega arith) (steps (suc d) D)
  steps d (implies_right D) = one (omega arith) (steps (suc d) D)
  steps d (implies_left {A = A} {B = B} m D E) =
      one (omega (arith, most (A implies B))) (both _ _ _ _ (steps (suc d) D) (steps (suc d) E))
  steps d (false_left m) = one (omega (arith, most false)) nothing
  steps d (and_right D E) = one (omega arith) (both _ _ _ _ (steps (suc d) D) (steps (suc d) E))
  steps d (and_left {A = A} {B = B} m D) = one (omega (arith, most (A and B))) (steps (suc d) D)
  steps d (or_right_first D) = one (omega arith) (steps (suc d) D)
  steps d (or_right_second D) = one (omega arith) (steps (suc d) D)
  steps d (or_left {A = A} {B = B} m D E) =
      one (omega (arith, most (A or B))) (both _ _ _ _ (steps (suc d) D) (steps (suc d) E))
  steps d (says_right D) = one (omega arith) (steps (suc d) D)
  steps d (says_left {K = K} {A = A} m r D) = one (omega (arith, most (K says A))) (steps (suc d) D)

-- Something that has a depth has a step.
some_depth : (depths : List ℕ) (h : ℕ) → Depth.Steps 1 depths h → 1 ≤ length depths
some_depth [] h s = absurd (omega (arith, s.positive, s.reach 0 (λ d m. absurd (Memᴰ.not-nil m))))
some_depth (d ∷ depths) h s = omega arith

pub some_step : {R : Relation} {Γ : List Proposition} {γ : Judgment} (D : Derivation R Γ γ)
    → 1 ≤ length (step_depths 1 D)
some_step D = some_depth (step_depths 1 D) _ (Depth.steps 1 D)
