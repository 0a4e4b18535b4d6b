-- Sides, and from whom a goal is independent, for every relation on principals. "Sides: a goal stands on the proving
-- side, a statement on the given side; operands keep the side, but the left of an implies takes the other." (02, job 5)
-- What follows from independence is in the crate `independence`. Assumes nothing.
use Rattle.std.specs.Prelude.{List}
use Rattle.basics.specs.Membership.{◌∈◌}
use Rattle.logic.specs.Proposition.{Proposition, Principal, atom, ◌implies◌, ◌and◌, ◌or◌, ◌says◌}
use Rattle.logic.specs.Principals.{Relation}
use Rattle.logic.specs.Signed.{SignedBy, Himself}

pub data Side : Type 0 where
  proving given : Side

abbrev pub other : Side → Side
other proving = given
other given = proving

-- B stands on side t of A, where A itself stands on side s.
pub data Stands (B : Proposition) (t : Side) : Proposition → Side → Type 0 where
  itself : Stands B t B t
  -- "the left of an implies takes the other"
  left_of_implies : {A C : Proposition} {s : Side} → Stands B t A (other s) → Stands B t (A implies C) s
  -- "operands keep the side"
  right_of_implies : {A C : Proposition} {s : Side} → Stands B t C s → Stands B t (A implies C) s
  first_of_and : {A C : Proposition} {s : Side} → Stands B t A s → Stands B t (A and C) s
  second_of_and : {A C : Proposition} {s : Side} → Stands B t C s → Stands B t (A and C) s
  first_of_or : {A C : Proposition} {s : Side} → Stands B t A s → Stands B t (A or C) s
  second_of_or : {A C : Proposition} {s : Side} → Stands B t C s → Stands B t (A or C) s
  said : {L : Principal} {A : Proposition} {s : Side} → Stands B t A s → Stands B t (L says A) s

module _ (◌speaks-for◌ : Relation) (K : Principal) where
  infix 40 ◌speaks-for◌
  -- A says-formula of anyone for whom K speaks (02, job 14), on the proving side of A, which itself stands on side s.
  -- With equality for the relation K speaks for himself alone, and it is a "says-formula of K".
  pub record ProvingSays (s : Side) (A : Proposition) : Type 0 where
    pub by : Principal
    pub what : Proposition
    pub spoken_for : K speaks-for by
    pub stands : Stands (by says what) proving A s

  -- "no says-formula of K stands on the proving side of the goal or of any statement, leaving out statements that are
  -- themselves K says something"
  pub record Independent (Γ : List Proposition) (C : Proposition) : Type 0 where
    pub of_goal : ¬ ProvingSays proving C
    pub of_statements : (A : Proposition) → A ∈ Γ → ¬ SignedBy (Himself K) A → ¬ ProvingSays given A

  -- The other case: one stands there. That K's papers do matter is not said.
  pub data CouldTouch (Γ : List Proposition) (C : Proposition) : Type 0 where
    by_goal : ProvingSays proving C → CouldTouch Γ C
    by_statement :
        (A : Proposition) → A ∈ Γ → ¬ SignedBy (Himself K) A → ProvingSays given A → CouldTouch Γ C

-- Samples: what 7 says as a goal, left of an implies, left of left, right of one, and inside what 8 says; and as a
-- statement, also as either operand of and and of or. Proved in proofs/Sides.antt.
abbrev pub seven : Proposition
seven = 7 says atom 0

abbrev pub OnlyOn : Side → Proposition → Side → Type 0
OnlyOn t A s = Stands seven t A s × (¬ Stands seven (other t) A s)

pub record SidesAre : Type 0 where
  pub goal : OnlyOn proving seven proving
  pub left_of_goal : OnlyOn given (seven implies atom 1) proving
  pub left_of_left : OnlyOn proving ((seven implies atom 1) implies atom 2) proving
  pub right_of_goal : OnlyOn proving (atom 1 implies seven) proving
  pub inside_goal : OnlyOn proving (8 says seven) proving
  pub statement : OnlyOn given seven given
  pub left_of_statement : OnlyOn proving (seven implies atom 1) given
  pub right_of_statement : OnlyOn given (atom 1 implies seven) given
  pub inside_statement : OnlyOn given (8 says seven) given
  pub first_conjunct : OnlyOn given (seven and atom 1) given
  pub second_conjunct : OnlyOn given (atom 1 and seven) given
  pub first_disjunct : OnlyOn given (seven or atom 1) given
  pub second_disjunct : OnlyOn given (atom 1 or seven) given
