-- Identity (003, Theorem 2, part 2), by recursion on the proposition: take it apart by its left rule, put it together
-- by its right rule. For every reflexive relation on principals. Assumes nothing.
use mathlib.Core.List.{◌∷◌}
use Rattle.basics.proofs.Membership.{first, second, added}
use Rattle.logic.specs.Proposition.{atom, false, ◌implies◌, ◌and◌, ◌or◌, ◌says◌}
use Rattle.logic.specs.Principals.{Relation, Reflexive}
use Rattle.logic.specs.Derivation.{init, affirm, implies_right, implies_left, false_left, and_right, and_left, or_right_first, or_right_second, or_left, says_right, says_left}
use Rattle.logic.specs.Cut.{Identity}

module _ {R : Relation} (reflexive : Reflexive R) where
  pub identity : Identity R
  identity Γ (atom a) m = init m
  identity Γ false m = false_left m
  identity Γ (A implies B) m = implies_right (implies_left (added A _ m) (identity (A ∷ Γ) A first) (identity (B ∷ A ∷ Γ) B first))
  identity Γ (A and B) m = and_left m (and_right (identity (A ∷ B ∷ Γ) A first) (identity (A ∷ B ∷ Γ) B second))
  identity Γ (A or B) m = or_left m (or_right_first (identity (A ∷ Γ) A first)) (or_right_second (identity (B ∷ Γ) B first))
  identity Γ (K says A) m = says_right (says_left m (reflexive K) (affirm (identity (A ∷ Γ) A first)))
