-- The words of a derivation, from 01's table alone: "The steps are the derivation from the goal upward: each step is
-- followed by all of its first premise, then its second." `number` gives the number of a proposition. Assumes nothing.
use Rattle.std.specs.Prelude.{ℕ, List, [], ◌∷◌, ◌++◌}
use Rattle.basics.specs.Word.{word}
use Rattle.logic.specs.Proposition.{Proposition, atom, false, ◌implies◌, ◌and◌, ◌or◌, ◌says◌}
use Rattle.logic.specs.Judgment.{Judgment}
use Rattle.logic.specs.Principals.{Relation}
use Rattle.logic.specs.Derivation.{Derivation, init, affirm, implies_right, implies_left, false_left, and_right, and_left, or_right_first, or_right_second, or_left, says_right, says_left}

-- "A step word is code × 4,096 + the named formula's number; where the rule names none that part is 0."
module _ {R : Relation} (number : Proposition → ℕ) where
  abbrev pub words : {Γ : List Proposition} {γ : Judgment} → Derivation R Γ γ → List ℕ
  words (init {a = a} m) = word 0 (number (atom a)) ∷ []
  words (affirm D) = word 1 0 ∷ words D
  words (implies_right D) = word 2 0 ∷ words D
  words (implies_left {A = A} {B = B} m D E) = word 3 (number (A implies B)) ∷ (words D ++ words E)
  words (false_left m) = word 4 (number false) ∷ []
  words (and_right D E) = word 5 0 ∷ (words D ++ words E)
  words (and_left {A = A} {B = B} m D) = word 6 (number (A and B)) ∷ words D
  words (or_right_first D) = word 7 0 ∷ words D
  words (or_right_second D) = word 8 0 ∷ words D
  words (or_left {A = A} {B = B} m D E) = word 9 (number (A or B)) ∷ (words D ++ words E)
  words (says_right D) = word 10 0 ∷ words D
  words (says_left {K = K} {A = A} m r D) = word 11 (number (K says A)) ∷ words D
