-- "What signed papers alone can't give" (02, job 6), for every relation on principals, so with deputies too. Proved in
-- proofs/SignedAlone.antt. Assumes nothing.
use Rattle.std.specs.Prelude.{◌≡◌, ◌≢◌, ◌↔◌, ◌⊎◌, List, [], ◌∷◌}
use Rattle.logic.specs.Proposition.{Proposition, Atom, Principal, atom, false, ◌implies◌, ◌and◌, ◌or◌, ◌says◌}
use Rattle.logic.specs.Principals.{Relation}
use Rattle.logic.specs.Force.{HasProof}
use Rattle.logic.specs.Signed.{SignedBy, AllSignedBy, Anybody}

-- "No atom and not false has a proof of any size, and an or has a proof only if one of its sides has", and if one has.
pub record GivesNoMore (R : Relation) (Γ : List Proposition) : Type 0 where
  pub no_atom : (a : Atom) → ¬ HasProof R Γ (atom a)
  pub no_false : ¬ HasProof R Γ false
  pub or_by_a_side : (A B : Proposition) → HasProof R Γ (A or B) ↔ (HasProof R Γ A ⊎ HasProof R Γ B)

-- "From a list whose statements are all says-formulas, the empty list included"
abbrev pub SignedAlone : Relation → Type 0
SignedAlone R = (Γ : List Proposition) → AllSignedBy Anybody Γ → GivesNoMore R Γ

-- A statement is signed by anybody exactly when it is a says-formula.
abbrev pub SignedIsSays : Type 0
SignedIsSays = (A : Proposition) → SignedBy Anybody A ↔ ((K : Principal) × (B : Proposition) × (A ≡ K says B))

-- "All": one order beside a paper, of whichever kind, can give an atom, false, or an or of which it gives neither side;
-- for every reflexive relation.
pub record OneOrderMore (R : Relation) : Type 0 where
  pub an_atom : HasProof R (7 says atom 0 ∷ atom 1 ∷ []) (atom 1)
  pub a_false : HasProof R (7 says atom 0 ∷ false ∷ []) false
  pub an_implies : HasProof R (7 says atom 0 ∷ (7 says atom 0 implies atom 1) ∷ []) (atom 1)
  pub an_and : HasProof R (7 says atom 0 ∷ atom 1 and atom 2 ∷ []) (atom 1)
  pub an_or : HasProof R (7 says atom 0 ∷ atom 1 or atom 2 ∷ []) (atom 1 or atom 2)
  pub not_first : ¬ HasProof R (7 says atom 0 ∷ atom 1 or atom 2 ∷ []) (atom 1)
  pub not_second : ¬ HasProof R (7 says atom 0 ∷ atom 1 or atom 2 ∷ []) (atom 2)

-- An or in a paper is no or of papers: what is said may be an or of which nobody says a side.
abbrev pub OrInAPaper : Relation → Type 0
OrInAPaper R =
    (K L M : Principal) (a b : Atom) → a ≢ b
    → ¬ HasProof R (K says (atom a or atom b) ∷ []) (L says atom a or M says atom b)
