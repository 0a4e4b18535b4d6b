-- Models with one world, by computation: some atoms are true, and some principals say everything. If all statements are
-- true in one and the goal is false, the goal has no proof, of whatever size. Proved in proofs/Countermodels.antt.
-- Assumes nothing.
use Rattle.std.specs.Prelude.{Bool, true, false, not, ◌||◌, ◌≡◌, ◌↔◌, ◌⊎◌, List, [], ◌∷◌, map}
use Rattle.basics.specs.Choice.{both}
use Rattle.basics.specs.Membership.{◌∈◌, holds}
use Rattle.logic.specs.Proposition as P
use Rattle.logic.specs.Proposition.{Proposition, Atom, Principal, atom, ◌implies◌, ◌and◌, ◌or◌, ◌says◌}
use Rattle.logic.specs.Principals.{Relation}
use Rattle.logic.specs.Force.{HasProof}
use Rattle.logic.specs.Models.{Model, Holds}

-- "Suppose that only these atoms are true, and that these principals say everything."
pub record Supposition : Type 0 where
  pub atoms : List Atom
  pub principals : List Principal

abbrev pub suppose : List Atom → List Principal → Supposition
suppose atoms principals = record { atoms = atoms; principals = principals }

-- whether a proposition is true then
abbrev pub is_true : Supposition → Proposition → Bool
is_true m (atom a) = holds m.atoms a
is_true m P.false = false
is_true m (A implies B) = not (is_true m A) || is_true m B
is_true m (A and B) = both (is_true m A) (is_true m B)
is_true m (A or B) = is_true m A || is_true m B
is_true m (K says A) = holds m.principals K || is_true m A

abbrev pub all_true : Supposition → List Proposition → Bool
all_true m [] = true
all_true m (A ∷ Γ) = both (is_true m A) (all_true m Γ)

-- all statements are true, and the goal is false
abbrev pub refutes : Supposition → List Proposition → Proposition → Bool
refutes m Γ A = both (all_true m Γ) (not (is_true m A))

module _ (R : Relation) where
  -- Where K says everything, so does everybody for whom he speaks. In Figure 1 that is always so.
  abbrev pub PassesOn : Supposition → Type 0
  PassesOn m = (K L : Principal) → R K L → K ∈ m.principals → L ∈ m.principals

  -- as a model (Models.antt)
  abbrev pub one_world : (m : Supposition) → PassesOn m → Model R
  one_world m passes = record {
    World = Unit;
    sees = λ v w. Unit;
    sees_itself = λ w. tt;
    sees_on = λ u v w s t. tt;
    true_at = λ w a. a ∈ m.atoms;
    stays_true = λ v w a s t. t;
    says_all_at = λ w K. K ∈ m.principals;
    passes_on = λ w K L. passes K L;
  }

  -- What is computed is what holds there.
  abbrev pub TrueThere : Type 0
  TrueThere = (m : Supposition) (passes : PassesOn m) (A : Proposition) → is_true m A ≡ true ↔ Holds (one_world m passes) tt A

  -- What is refuted has no proof.
  abbrev pub NoProof : Type 0
  NoProof =
      (m : Supposition) → PassesOn m → (Γ : List Proposition) (A : Proposition)
      → refutes m Γ A ≡ true → ¬ HasProof R Γ A

-- Samples: every connective, where only atom 0 is true and principal 7 says everything.
abbrev pub asked : List Proposition
asked =
    atom 0 ∷ atom 7 ∷ P.false
    ∷ atom 0 implies atom 0 ∷ atom 0 implies atom 7 ∷ atom 7 implies atom 0 ∷ atom 7 implies atom 7
    ∷ atom 0 and atom 0 ∷ atom 0 and atom 7 ∷ atom 7 and atom 0 ∷ atom 7 and atom 7
    ∷ atom 0 or atom 0 ∷ atom 0 or atom 7 ∷ atom 7 or atom 0 ∷ atom 7 or atom 7
    ∷ 7 says atom 7 ∷ 7 says P.false ∷ 0 says atom 7 ∷ 0 says atom 0 ∷ []

abbrev pub TruthsAre : Type 0
TruthsAre =
    map (is_true (suppose (0 ∷ []) (7 ∷ []))) asked
    ≡ true ∷ false ∷ false
    ∷ true ∷ false ∷ true ∷ true
    ∷ true ∷ false ∷ false ∷ false
    ∷ true ∷ true ∷ true ∷ false
    ∷ true ∷ true ∷ false ∷ true ∷ []

-- Where 7 speaks for 8, and besides everybody for himself alone: what 8 says, 7 doesn't thereby say. (8 may say
-- everything and 7 not; if 7 did, 8 would too.)
abbrev pub SevenForEight : Relation
SevenForEight K L = (K ≡ L) ⊎ ((K ≡ 7) × (L ≡ 8))

abbrev pub PassesOneWay : Type 0
PassesOneWay =
    PassesOn SevenForEight (suppose [] (8 ∷ []))
    × (¬ PassesOn SevenForEight (suppose [] (7 ∷ [])))
    × (¬ HasProof SevenForEight (8 says atom 0 ∷ []) (7 says atom 0))
