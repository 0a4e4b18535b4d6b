-- The formulas that the says lefts of a derivation name. Assumes nothing.
use Rattle.std.specs.Prelude.{List, [], ◌∷◌, ◌++◌}
use Rattle.logic.specs.Proposition.{Proposition, ◌says◌}
use Rattle.logic.specs.Judgment.{Judgment}
use Rattle.logic.specs.Principals.{Relation}
use Rattle.logic.specs.Derivation.{Derivation, init, affirm, implies_right, implies_left, false_left, and_right, and_left, or_right_first, or_right_second, or_left, says_right, says_left}

module _ {R : Relation} where
  abbrev pub says_left_names : {Γ : List Proposition} {γ : Judgment} → Derivation R Γ γ → List Proposition
  says_left_names (init m) = []
  says_left_names (affirm D) = says_left_names D
  says_left_names (implies_right D) = says_left_names D
  says_left_names (implies_left m D E) = says_left_names D ++ says_left_names E
  says_left_names (false_left m) = []
  says_left_names (and_right D E) = says_left_names D ++ says_left_names E
  says_left_names (and_left m D) = says_left_names D
  says_left_names (or_right_first D) = says_left_names D
  says_left_names (or_right_second D) = says_left_names D
  says_left_names (or_left m D E) = says_left_names D ++ says_left_names E
  says_left_names (says_right D) = says_left_names D
  says_left_names (says_left {K = K} {A = A} m r D) = (K says A) ∷ says_left_names D
