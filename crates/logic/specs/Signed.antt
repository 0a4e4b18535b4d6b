-- Signed statements: says-formulas, by who says them. Assumes nothing.
use Rattle.std.specs.Prelude.{◌≡◌, ◌≢◌, List}
use Rattle.basics.specs.Membership.{◌∈◌}
use Rattle.logic.specs.Proposition.{Proposition, Principal, atom, false, ◌implies◌, ◌and◌, ◌or◌, ◌says◌}

-- The statement is signed: it is K says something, and P holds of its signer K.
abbrev pub SignedBy : (Principal → Type 0) → Proposition → Type 0
SignedBy P (atom a) = ⊥
SignedBy P false = ⊥
SignedBy P (A implies B) = ⊥
SignedBy P (A and B) = ⊥
SignedBy P (A or B) = ⊥
SignedBy P (K says A) = P K

-- Every statement of the list is signed so.
abbrev pub AllSignedBy : (Principal → Type 0) → List Proposition → Type 0
AllSignedBy P Γ = (A : Proposition) → A ∈ Γ → SignedBy P A

-- whoever the signer is
abbrev pub Anybody : Principal → Type 0
Anybody K = Unit

-- L himself
abbrev pub Himself : Principal → Principal → Type 0
Himself L K = K ≡ L

-- any signer but L
abbrev pub OtherThan : Principal → Principal → Type 0
OtherThan L K = K ≢ L
