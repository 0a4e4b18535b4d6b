-- 003, section 2.2: three formulas that are derivable from no hypotheses, and three that are not. They are the paper's,
-- so for Figure 1: the last is derivable where K speaks for L. Proved in proofs/Says.antt. Assumes nothing.
use Rattle.std.specs.Prelude.{[], ◌≢◌}
use Rattle.logic.specs.Proposition.{Proposition, Atom, Principal, atom, false, ◌implies◌, ◌says◌}
use Rattle.logic.specs.Figure1.{HasProof}

-- ⊢ A ⊃ (K says A)
abbrev pub TruthIsSaid : Type 0
TruthIsSaid = (K : Principal) (A : Proposition) → HasProof [] (A implies K says A)

-- ⊢ (K says (A ⊃ B)) ⊃ (K says A) ⊃ (K says B)
abbrev pub SaysDistributes : Type 0
SaysDistributes = (K : Principal) (A B : Proposition) → HasProof [] (K says (A implies B) implies K says A implies K says B)

-- ⊢ (K says (K says A)) ⊃ (K says A)
abbrev pub SaysTwiceIsSays : Type 0
SaysTwiceIsSays = (K : Principal) (A : Proposition) → HasProof [] (K says K says A implies K says A)

-- The other three are not derivable "in the given generality". The first fails for every principal and every atom, the
-- second for every principal, the third for every two principals that differ and every atom.

-- ⊬ (K says A) ⊃ A
abbrev pub SaidIsNotTrue : Type 0
SaidIsNotTrue = (K : Principal) (a : Atom) → ¬ HasProof [] (K says atom a implies atom a)

-- ⊬ (K says ⊥) ⊃ ⊥
abbrev pub SaidFalseIsNotFalse : Type 0
SaidFalseIsNotFalse = (K : Principal) → ¬ HasProof [] (K says false implies false)

-- ⊬ (K₁ says A) ⊃ (K₂ says A)
abbrev pub SaidIsNotSaidByAnother : Type 0
SaidIsNotSaidByAnother = (K L : Principal) → K ≢ L → (a : Atom) → ¬ HasProof [] (K says atom a implies L says atom a)
