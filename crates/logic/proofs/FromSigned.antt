-- Derivations from signed statements alone. Only says left can name a signed statement, and its goal is an affirmation
-- by somebody for whom the signer speaks. So where the right rules of a goal end at an atom, which is no hypothesis, or
-- at false, which has no right rule, a derivation passes a says left: what follows from that, follows (`from_signed`).
-- Where nothing speaks for anybody on the way, there is no derivation. Assumes nothing.
use mathlib.Core.List.{List, [], ◌∷◌}
use Rattle.basics.proofs.Membership.{each_of_none, each_of_more}
use Rattle.logic.specs.Proposition.{Proposition, Principal, atom, false, ◌implies◌, ◌and◌, ◌or◌, ◌says◌}
use Rattle.logic.specs.Judgment.{Judgment, truth, ◌affirms◌}
use Rattle.logic.specs.Principals.{Relation}
use Rattle.logic.specs.Derivation.{Derivation, init, affirm, implies_right, implies_left, false_left, and_right, and_left, or_right_first, or_right_second, or_left, says_right, says_left}
use Rattle.logic.specs.Signed.{SignedBy, AllSignedBy}

-- ---- lists of signed statements

pub none_signed : (P : Principal → Type 0) → AllSignedBy P []
none_signed P = each_of_none (SignedBy P)

pub one_more_signed : (P : Principal → Type 0) {A : Proposition} {Γ : List Proposition} → SignedBy P A → AllSignedBy P Γ → AllSignedBy P (A ∷ Γ)
one_more_signed P = each_of_more (SignedBy P)

pub one_signed : (P : Principal → Type 0) {K : Principal} (A : Proposition) → P K → AllSignedBy P (K says A ∷ [])
one_signed P A p = one_more_signed P p (none_signed P)

-- ---- what their derivations give

module _ (R : Relation) (P : Principal → Type 0) (T : Type 0) where
  -- a signer who speaks for L gives T
  abbrev pub Gives : Principal → Type 0
  Gives L = (K : Principal) → P K → R K L → T

  -- so does a proof of the proposition from statements signed by P alone (`from_signed`); and and or are left out
  abbrev pub Yields : Proposition → Type 0
  Yields (atom a) = Unit
  Yields false = Unit
  Yields (A implies B) = SignedBy P A × Yields B
  Yields (A and B) = ⊥
  Yields (A or B) = ⊥
  Yields (L says A) = Gives L × Yields A

  abbrev pub YieldsGoal : Judgment → Type 0
  YieldsGoal (truth A) = Yields A
  YieldsGoal (L affirms A) = Gives L × Yields A

  pub from_signed : {Γ : List Proposition} {γ : Judgment} → Derivation R Γ γ → AllSignedBy P Γ → YieldsGoal γ → T
  from_signed (init m) s y = absurd (s _ m)
  from_signed (affirm D) s y = from_signed D s y.1
  from_signed (implies_right D) s y = from_signed D (one_more_signed P y.0 s) y.1
  from_signed (implies_left m D E) s y = absurd (s _ m)
  from_signed (false_left m) s y = absurd (s _ m)
  from_signed (and_right D E) s y = absurd y
  from_signed (and_left m D) s y = absurd (s _ m)
  from_signed (or_right_first D) s y = absurd y
  from_signed (or_right_second D) s y = absurd y
  from_signed (or_left m D E) s y = absurd (s _ m)
  from_signed (says_right D) s y = from_signed D s y
  from_signed (says_left {K = K} m r D) s y = y.0 K (s _ m) r
