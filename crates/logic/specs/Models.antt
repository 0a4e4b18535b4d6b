-- Kripke models of the logic, for every relation on principals. No document has them: they serve to show that a formula
-- has no proof, of whatever size (Countermodels.antt has those that compute). Proved in proofs/Models.antt. Assumes
-- nothing.
use Rattle.std.specs.Prelude.{◌⊎◌, List}
use Rattle.basics.specs.Membership.{◌∈◌}
use Rattle.logic.specs.Proposition.{Proposition, Atom, Principal, atom, false, ◌implies◌, ◌and◌, ◌or◌, ◌says◌}
use Rattle.logic.specs.Judgment.{Judgment, truth, ◌affirms◌}
use Rattle.logic.specs.Principals.{Relation}
use Rattle.logic.specs.Derivation.{Derivation}

-- Worlds see worlds: each sees itself, and what is seen by one that it sees. An atom that is true at a world stays true
-- at those that it sees. At a world some principals say everything, which need not stay so; where K does, so does
-- everybody for whom he speaks.
pub record Model (R : Relation) : Type 1 where
  pub World : Type 0
  pub sees : World → World → Type 0
  pub sees_itself : (w : World) → sees w w
  pub sees_on : (u v w : World) → sees u v → sees v w → sees u w
  pub true_at : World → Atom → Type 0
  pub stays_true : (v w : World) (a : Atom) → sees v w → true_at v a → true_at w a
  pub says_all_at : World → Principal → Type 0
  pub passes_on : (w : World) (K L : Principal) → R K L → says_all_at w K → says_all_at w L

module _ {R : Relation} (M : Model R) where
  -- An implies holds where, at every world seen, the right holds if the left does; K says A where, at every world seen,
  -- K says everything or A holds. The others hold by what holds at the world itself.
  abbrev pub Holds : M.World → Proposition → Type 0
  Holds w (atom a) = M.true_at w a
  Holds w false = ⊥
  Holds w (A implies B) = (v : M.World) → M.sees w v → Holds v A → Holds v B
  Holds w (A and B) = Holds w A × Holds w B
  Holds w (A or B) = Holds w A ⊎ Holds w B
  Holds w (K says A) = (v : M.World) → M.sees w v → M.says_all_at v K ⊎ Holds v A

  -- An affirmation holds where what is affirmed is said.
  abbrev pub HoldsGoal : M.World → Judgment → Type 0
  HoldsGoal w (truth A) = Holds w A
  HoldsGoal w (K affirms A) = Holds w (K says A)

  abbrev pub AllHold : M.World → List Proposition → Type 0
  AllHold w Γ = (A : Proposition) → A ∈ Γ → Holds w A

-- Derivations are sound: at a world where all hypotheses hold, the goal holds. So where it doesn't, there is none.
abbrev pub Sound : Relation → Type 1
Sound R =
    (M : Model R) (w : M.World) (Γ : List Proposition) (γ : Judgment)
    → Derivation R Γ γ → AllHold M w Γ → HoldsGoal M w γ

-- What holds at a world holds at every world that it sees.
abbrev pub HoldsOn : Relation → Type 1
HoldsOn R = (M : Model R) (v w : M.World) (A : Proposition) → M.sees v w → Holds M v A → Holds M w A

-- Who says everything, at each world seen, says everything: also what doesn't hold.
abbrev pub SaysAll : Relation → Type 1
SaysAll R =
    (M : Model R) (w : M.World) (K : Principal)
    → ((v : M.World) → M.sees w v → M.says_all_at v K) → (A : Proposition) → Holds M w (K says A)
