-- 003, Theorem 2, part 3, where there are no terms: propositions for atoms, and principals for principals. What was
-- shown of one reel holds of every other. From a relation on principals to another that it maps into; for one relation
-- where the principals are put so that who speaks for whom stays. Proved in proofs/Substitution.antt. Assumes nothing.
use Rattle.std.specs.Prelude.{◌+◌, ◌≡◌, List, [], ◌∷◌, map}
use Rattle.logic.specs.Proposition.{Proposition, Atom, Principal, atom, false, ◌implies◌, ◌and◌, ◌or◌, ◌says◌}
use Rattle.logic.specs.Judgment.{Judgment, truth, ◌affirms◌}
use Rattle.logic.specs.Principals.{Relation}
use Rattle.logic.specs.Derivation.{Derivation}
use Rattle.logic.specs.Force.{EqualInForce}

module _ (σ : Atom → Proposition) (ρ : Principal → Principal) where
  -- σ a for each atom a, and ρ K for each principal K
  abbrev pub put : Proposition → Proposition
  put (atom a) = σ a
  put false = false
  put (A implies B) = put A implies put B
  put (A and B) = put A and put B
  put (A or B) = put A or put B
  put (K says A) = ρ K says put A

  abbrev pub put_goal : Judgment → Judgment
  put_goal (truth A) = truth (put A)
  put_goal (K affirms A) = ρ K affirms put A

-- Who speaks for whom in R speaks for him in S, after principals are put. In Figure 1 that is always so.
abbrev pub Respects : Relation → Relation → (Principal → Principal) → Type 0
Respects R S ρ = (K L : Principal) → R K L → S (ρ K) (ρ L)

module _ (R S : Relation) where
  abbrev pub Substitution : Type 0
  Substitution =
      (σ : Atom → Proposition) (ρ : Principal → Principal) → Respects R S ρ → (Γ : List Proposition) (γ : Judgment)
      → Derivation R Γ γ → Derivation S (map (put σ ρ) Γ) (put_goal σ ρ γ)

  -- So lists equal in force stay so.
  abbrev pub ForceSubstituted : Type 0
  ForceSubstituted =
      (σ : Atom → Proposition) (ρ : Principal → Principal) → Respects R S ρ → (Γ Δ : List Proposition)
      → EqualInForce R Γ Δ → EqualInForce S (map (put σ ρ) Γ) (map (put σ ρ) Δ)

-- ---- what it is to put

-- Each atom for itself and each principal for himself changes nothing.
abbrev pub PutThemselves : Type 0
PutThemselves = (A : Proposition) → put atom (λ K. K) A ≡ A

-- Samples: what 9 says of the atom that many above, for each atom, and the next principal but one; every connective.
abbrev pub PutSamples : Type 0
PutSamples =
    (map (put (λ a. 9 says atom (3 + a)) (λ K. 2 + K)) (
    atom 0 ∷ false ∷ atom 0 implies atom 1 ∷ atom 0 and atom 1 ∷ atom 0 or atom 1
    ∷ 7 says atom 0 ∷ 7 says 8 says (false or atom 1) ∷ []
    )
    ≡ 9 says atom 3 ∷ false ∷ 9 says atom 3 implies 9 says atom 4 ∷ 9 says atom 3 and 9 says atom 4
    ∷ 9 says atom 3 or 9 says atom 4
    ∷ 9 says 9 says atom 3 ∷ 9 says 10 says (false or 9 says atom 4) ∷ [])
    × (put_goal (λ a. 9 says atom (3 + a)) (λ K. 2 + K) (7 affirms atom 0) ≡ 9 affirms 9 says atom 3)
    × (put_goal (λ a. 9 says atom (3 + a)) (λ K. 2 + K) (truth (7 says atom 0)) ≡ truth (9 says 9 says atom 3))
