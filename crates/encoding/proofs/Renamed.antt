-- A derivation where hypotheses and goal are equal to others: it has the same steps. Assumes nothing.
use Prim.Native.Nat.{ℕ}
use mathlib.Core.Path.{◌≡◌, refl, subst₂}
use mathlib.Core.List.{List}
use Rattle.logic.specs.Proposition.{Proposition}
use Rattle.logic.specs.Judgment.{truth}
use Rattle.logic.specs.Principals.{Relation}
use Rattle.logic.specs.Derivation.{Derivation}
use Rattle.logic.specs.Depth.{step_depths}
use Rattle.logic.specs.Named.{says_left_names}
use Rattle.steps.specs.Words.{words}

module _ {R : Relation} {Γ : List Proposition} {A : Proposition} (D : Derivation R Γ (truth A)) where
  pub record Renamed (Δ : List Proposition) (B : Proposition) : Type 0 where
    pub derivation : Derivation R Δ (truth B)
    pub same_depths : step_depths 1 derivation ≡ step_depths 1 D
    pub same_words : (number : Proposition → ℕ) → words number derivation ≡ words number D
    pub same_names : says_left_names derivation ≡ says_left_names D

  pub renamed : {Δ : List Proposition} {B : Proposition} → Γ ≡ Δ → A ≡ B → Renamed Δ B
  renamed e f =
      subst₂ Renamed e f record { derivation = D; same_depths = refl; same_words = λ number. refl; same_names = refl }
