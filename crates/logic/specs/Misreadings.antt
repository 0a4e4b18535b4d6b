-- What the classes get wrong, in the words of the demands, and what holds instead: for one statement, and for any list
-- of signed ones alone, however many they are and whatever they say. For Figure 1, as classes read it: with deputies
-- one principal's word may serve another. Proved in proofs/Misreadings.antt. Assumes nothing.
use Rattle.std.specs.Prelude.{List, [], ◌∷◌, ◌++◌, ◌≢◌}
use Rattle.basics.specs.Membership.{◌∈◌}
use Rattle.logic.specs.Proposition.{Proposition, Atom, Principal, atom, false, ◌says◌}
use Rattle.logic.specs.Judgment.{◌affirms◌}
use Rattle.logic.specs.Signed.{AllSignedBy, Anybody, OtherThan}
use Rattle.logic.specs.Figure1.{Derivation, HasProof, EqualInForce}

-- "They read 'the lab says the reel is sound' as 'the reel is sound'." What is said, by whomever, does not by itself
-- prove an atom. (`SignedGiveNoAtom` here and `SignedGiveNoFalse` below are parts of SignedAlone.antt's promise.)
abbrev pub SaysGivesNoAtom : Type 0
SaysGivesNoAtom = (K : Principal) (a : Atom) → ¬ HasProof (K says atom a ∷ []) (atom a)

abbrev pub SignedGiveNoAtom : Type 0
SignedGiveNoAtom = (Γ : List Proposition) → AllSignedBy Anybody Γ → (a : Atom) → ¬ HasProof Γ (atom a)

-- "They use one foreman's word while they prove what another affirms." What others say does not by itself serve an
-- affirmation of an atom by L.
abbrev pub SaysServesNoOther : Type 0
SaysServesNoOther = (K L : Principal) → K ≢ L → (a : Atom) → ¬ Derivation (K says atom a ∷ []) (L affirms atom a)

abbrev pub SignedServeNoOther : Type 0
SignedServeNoOther =
    (L : Principal) (Γ : List Proposition) → AllSignedBy (OtherThan L) Γ → (a : Atom) → ¬ Derivation Γ (L affirms atom a)

-- "They believe that a principal who says false lets everybody say everything." By itself it lets nobody else say an
-- atom, and gives no false.
abbrev pub SaysFalseServesNoOther : Type 0
SaysFalseServesNoOther = (K L : Principal) → K ≢ L → (a : Atom) → ¬ HasProof (K says false ∷ []) (L says atom a)

abbrev pub SaysFalseGivesNoFalse : Type 0
SaysFalseGivesNoFalse = (K : Principal) → ¬ HasProof (K says false ∷ []) false

abbrev pub SignedGiveNoFalse : Type 0
SignedGiveNoFalse = (Γ : List Proposition) → AllSignedBy Anybody Γ → ¬ HasProof Γ false

-- "They put a statement in twice and think it weighs double." It adds nothing, and proofs stay as deep
-- (Structural.antt: TwiceIsOnce).
abbrev pub TwiceAddsNothing : Type 0
TwiceAddsNothing = (Γ Δ : List Proposition) (A : Proposition) → A ∈ Γ ++ Δ → EqualInForce (Γ ++ A ∷ Δ) (Γ ++ Δ)
