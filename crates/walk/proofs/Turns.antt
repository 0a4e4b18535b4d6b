-- Which premises are truths and which affirmations, where a step has two: of a truth, both are truths; of an
-- affirmation, the second is an affirmation. Assumes nothing.
use Prim.Native.Nat.{ℕ}
use mathlib.Core.Bool.{Bool}
use mathlib.Core.List.{List, [], ◌∷◌}
use Rattle.table.specs.declared.entry.Formula.{Formula}
use Rattle.table.specs.declared.entry.Entry.{Entry}
use Rattle.steps.specs.declared.goal.Goal.{Goal}
use Rattle.steps.specs.declared.goal.Goal.TheVariants.{True, Affirms}
use Rattle.steps.specs.declared.opened.Premise.{Premise}
use Rattle.steps.specs.Obligation.{alone, adding}
use Rattle.steps.specs.Applies.{Applies, init, affirm, implies_right, implies_left, false_left, and_right, and_left, or_right_first, or_right_second, or_left, says_right, says_left}
use Rattle.walk.specs.Walks.{IsTruth, IsAffirmation}

abbrev pub Turns : Goal → List Premise → Type 0
Turns g [] = Unit
Turns g (p ∷ []) = Unit
Turns (True f) (p ∷ q ∷ ps) = IsTruth p.goal × IsTruth q.goal
Turns (Affirms k f) (p ∷ q ∷ ps) = IsAffirmation q.goal

-- rules 3 and 9: the goal goes on in the second premise
truth_first : (g : Goal) (a b : Formula) → Turns g (alone (True a) ∷ adding g b ∷ [])
truth_first (True f) a b = (tt, tt)
truth_first (Affirms k f) a b = tt

goal_twice : (g : Goal) (a b : Formula) → Turns g (adding g a ∷ adding g b ∷ [])
goal_twice (True f) a b = (tt, tt)
goal_twice (Affirms k f) a b = tt

module _ {speaks : ℕ → ℕ → Bool} {es : List Entry} {hs : List ℕ} where
  pub turns : {c n : ℕ} {g : Goal} {ps : List Premise} → Applies speaks es hs c n g ps → Turns g ps
  turns (init m e) = tt
  turns affirm = tt
  turns (implies_right e) = tt
  turns {g = g} (implies_left {a = a} {b = b} m e) = truth_first g a b
  turns (false_left m e) = tt
  turns (and_right e) = (tt, tt)
  turns (and_left m e) = tt
  turns (or_right_first e) = tt
  turns (or_right_second e) = tt
  turns {g = g} (or_left {a = a} {b = b} m e) = goal_twice g a b
  turns (says_right e) = tt
  turns (says_left m e s) = tt
