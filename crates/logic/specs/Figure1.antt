-- Figure 1 of 003 itself: a principal's word serves that same principal, and nobody else. The definitions and the
-- promises with equality as the relation on principals. What the documents call a proof and equal in force is meant so;
-- whatever stands above these files cites them from here. Proved in proofs/Figure1.antt. Assumes nothing.
use Rattle.std.specs.Prelude.{true, ◌≡◌, List, map}
use Rattle.logic.specs.Proposition.{Proposition, Atom, Principal}
use Rattle.logic.specs.Judgment.{Judgment}
use Rattle.logic.specs.Principals.{Relation}
use Rattle.logic.specs.Derivation as Rules
use Rattle.logic.specs.Force
use Rattle.logic.specs.Substitution.{put, put_goal}
use Rattle.logic.specs.Countermodels.{Supposition, refutes}
use Rattle.logic.specs.Promises.{Promises}

-- "the same K" (01, code 11)
abbrev pub Same : Relation
Same K L = K ≡ L

abbrev pub Derivation : List Proposition → Judgment → Type 0
Derivation = Rules.Derivation Same

abbrev pub HasProof : List Proposition → Proposition → Type 0
HasProof = Force.HasProof Same

abbrev pub EqualInForce : List Proposition → List Proposition → Type 0
EqualInForce = Force.EqualInForce Same

-- Among them demand 3's theorem, `force_by_statements`.
abbrev pub Promised : Type 0
Promised = Promises Same

-- ---- where every relation had a condition, and equality keeps it

-- No matter who says everything (Countermodels.antt).
abbrev pub NoProof : Type 0
NoProof = (m : Supposition) (Γ : List Proposition) (A : Proposition) → refutes m Γ A ≡ true → ¬ HasProof Γ A

-- No matter which principals are put for others (Substitution.antt).
abbrev pub Substitution : Type 0
Substitution =
    (σ : Atom → Proposition) (ρ : Principal → Principal) (Γ : List Proposition) (γ : Judgment)
    → Derivation Γ γ → Derivation (map (put σ ρ) Γ) (put_goal σ ρ γ)

abbrev pub ForceSubstituted : Type 0
ForceSubstituted =
    (σ : Atom → Proposition) (ρ : Principal → Principal) (Γ Δ : List Proposition)
    → EqualInForce Γ Δ → EqualInForce (map (put σ ρ) Γ) (map (put σ ρ) Δ)
