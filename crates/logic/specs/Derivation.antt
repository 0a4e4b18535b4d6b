-- Derivations: the rules of 01's table, in its order and under its names. They are those of 003, Figure 1, without
-- quantifiers, and Gentzen's for and and or.
--
-- Above each rule stands its row of the table: code, name, goal below, named hypothesis, premises in order. The rule
-- says the same: the named hypothesis, the premises, and last what it concludes. Γ holds the hypotheses. "Hypotheses
-- are truths and form a set: a statement that stands twice is one hypothesis": of the list only membership is used
-- (Structural.antt: OneSet, TwiceIsOnce). A premise adds to Γ and takes nothing away: "a formula named by a left rule
-- remains a hypothesis in every premise".
--
-- The relation on principals is used by says left alone: K speaks for L where K's word may serve an affirmation by L.
-- Figure 1 takes equality, "the same K" (Figure1.antt). Assumes nothing.
use Rattle.std.specs.Prelude.{List, ◌∷◌}
use Rattle.basics.specs.Membership.{◌∈◌}
use Rattle.logic.specs.Proposition.{Proposition, Atom, Principal, atom, false, ◌implies◌, ◌and◌, ◌or◌, ◌says◌}
use Rattle.logic.specs.Judgment.{Judgment, truth, ◌affirms◌}
use Rattle.logic.specs.Principals.{Relation}

module _ (◌speaks-for◌ : Relation) where
  infix 40 ◌speaks-for◌
  pub data Derivation : List Proposition → Judgment → Type 0 where
    -- 0 | init | an atom's truth | that atom | none
    init : {Γ : List Proposition} {a : Atom}
        → atom a ∈ Γ → Derivation Γ (truth (atom a))
    -- 1 | affirm | K affirms A | none | A is true
    affirm : {Γ : List Proposition} {K : Principal} {A : Proposition}
        → Derivation Γ (truth A) → Derivation Γ (K affirms A)
    -- 2 | implies right | A implies B | none | B, with A added
    implies_right : {Γ : List Proposition} {A B : Proposition}
        → Derivation (A ∷ Γ) (truth B) → Derivation Γ (truth (A implies B))
    -- 3 | implies left | any | A implies B | A is true; the goal, with B added
    implies_left : {Γ : List Proposition} {γ : Judgment} {A B : Proposition}
        → A implies B ∈ Γ → Derivation Γ (truth A) → Derivation (B ∷ Γ) γ → Derivation Γ γ
    -- 4 | false left | any | false | none
    false_left : {Γ : List Proposition} {γ : Judgment}
        → false ∈ Γ → Derivation Γ γ
    -- 5 | and right | A and B | none | A; B
    and_right : {Γ : List Proposition} {A B : Proposition}
        → Derivation Γ (truth A) → Derivation Γ (truth B) → Derivation Γ (truth (A and B))
    -- 6 | and left | any | A and B | the goal, with A and B added
    and_left : {Γ : List Proposition} {γ : Judgment} {A B : Proposition}
        → A and B ∈ Γ → Derivation (A ∷ B ∷ Γ) γ → Derivation Γ γ
    -- 7 | or right first | A or B | none | A
    or_right_first : {Γ : List Proposition} {A B : Proposition}
        → Derivation Γ (truth A) → Derivation Γ (truth (A or B))
    -- 8 | or right second | A or B | none | B
    or_right_second : {Γ : List Proposition} {A B : Proposition}
        → Derivation Γ (truth B) → Derivation Γ (truth (A or B))
    -- 9 | or left | any | A or B | the goal with A added; the goal with B added
    or_left : {Γ : List Proposition} {γ : Judgment} {A B : Proposition}
        → A or B ∈ Γ → Derivation (A ∷ Γ) γ → Derivation (B ∷ Γ) γ → Derivation Γ γ
    -- 10 | says right | K says A | none | K affirms A
    says_right : {Γ : List Proposition} {K : Principal} {A : Proposition}
        → Derivation Γ (K affirms A) → Derivation Γ (truth (K says A))
    -- 11 | says left | K affirms C | K says A, the same K | the same goal, with A added
    says_left : {Γ : List Proposition} {K L : Principal} {A C : Proposition}
        → K says A ∈ Γ → K speaks-for L → Derivation (A ∷ Γ) (L affirms C) → Derivation Γ (L affirms C)
