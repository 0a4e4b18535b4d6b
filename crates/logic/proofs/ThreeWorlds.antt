-- A model with three worlds: now no atom is true and everybody says everything; later nobody does, and only a is true,
-- or else only b. For every relation on principals. It shows what one world can't (`or_in_a_paper_lem`). Assumes nothing.
use mathlib.Core.Path.{◌≡◌}
use Rattle.logic.specs.Proposition.{Atom, Principal}
use Rattle.logic.specs.Principals.{Relation}
use Rattle.logic.specs.Models.{Model}

pub data Time : Type 0 where
  now later or_else : Time

abbrev pub Sees : Time → Time → Type 0
Sees now w = Unit
Sees later now = ⊥
Sees later later = Unit
Sees later or_else = ⊥
Sees or_else now = ⊥
Sees or_else later = ⊥
Sees or_else or_else = Unit

pub sees_itself : (w : Time) → Sees w w
sees_itself now = tt
sees_itself later = tt
sees_itself or_else = tt

pub sees_on : (u v w : Time) → Sees u v → Sees v w → Sees u w
sees_on now v w s t = tt
sees_on later now w s t = absurd s
sees_on later later w s t = t
sees_on later or_else w s t = absurd s
sees_on or_else now w s t = absurd s
sees_on or_else later w s t = absurd s
sees_on or_else or_else w s t = t

abbrev pub SaysAllAt : Time → Principal → Type 0
SaysAllAt now K = Unit
SaysAllAt later K = ⊥
SaysAllAt or_else K = ⊥

pub passes_on : (w : Time) (K L : Principal) → SaysAllAt w K → SaysAllAt w L
passes_on now K L every = tt
passes_on later K L none = absurd none
passes_on or_else K L none = absurd none

module _ (a b : Atom) where
  abbrev pub TrueAt : Time → Atom → Type 0
  TrueAt now c = ⊥
  TrueAt later c = c ≡ a
  TrueAt or_else c = c ≡ b

  pub stays_true : (v w : Time) (c : Atom) → Sees v w → TrueAt v c → TrueAt w c
  stays_true now w c s none = absurd none
  stays_true later now c s h = absurd s
  stays_true later later c s h = h
  stays_true later or_else c s h = absurd s
  stays_true or_else now c s h = absurd s
  stays_true or_else later c s h = absurd s
  stays_true or_else or_else c s h = h

  abbrev pub three_worlds : (R : Relation) → Model R
  three_worlds R = record {
    World = Time;
    sees = Sees;
    sees_itself = sees_itself;
    sees_on = sees_on;
    true_at = TrueAt;
    stays_true = stays_true;
    says_all_at = SaysAllAt;
    passes_on = λ w K L r. passes_on w K L;
  }
