-- What signed statements alone can't give (specs/SignedAlone.antt). Of the rules that name a hypothesis only says left
-- can name one of them, and it serves an affirmation. So of an atom and of false there is no derivation, and that of an
-- or ends with one of its right rules (`by_right_rule`). Assumes nothing.
use mathlib.Core.Path.{◌≡◌, refl, sym, subst}
use mathlib.Core.Logic.{◌⊎◌, inl, inr, ⊎_elim}
use mathlib.Core.List.Memᴰ
use mathlib.Core.List.{List, [], ◌∷◌}
use Rattle.basics.specs.Membership.{holds}
use Rattle.basics.proofs.Membership.{first, second, each_of_none, each_of_more}
use Rattle.logic.specs.Proposition.{Proposition, Atom, Principal, atom, false, ◌implies◌, ◌and◌, ◌or◌, ◌says◌}
use Rattle.logic.specs.Judgment.{truth}
use Rattle.logic.specs.Principals.{Relation, Reflexive}
use Rattle.logic.specs.Derivation.{Derivation, init, affirm, implies_right, implies_left, false_left, and_right, and_left, or_right_first, or_right_second, or_left, says_right, says_left}
use Rattle.logic.specs.Models.{Holds}
use Rattle.logic.specs.Countermodels.{suppose, PassesOn}
use Rattle.logic.specs.Signed.{SignedBy, AllSignedBy, Anybody}
use Rattle.logic.specs.SignedAlone.{SignedAlone, SignedIsSays, OneOrderMore, OrInAPaper}
use Rattle.logic.proofs.Models.{sound}
use Rattle.logic.proofs.Countermodels.{no_proof}
use Rattle.logic.proofs.ThreeWorlds.{now, later, or_else, three_worlds}

module _ {R : Relation} {Γ : List Proposition} where
  -- Nothing is said of the others.
  abbrev pub ByRightRule : (A : Proposition) → Derivation R Γ (truth A) → Type 0
  ByRightRule (atom a) D = ⊥
  ByRightRule false D = ⊥
  ByRightRule (A implies B) D = Unit
  ByRightRule (A and B) D = Unit
  ByRightRule (A or B) D =
      ((E : Derivation R Γ (truth A)) × (D ≡ or_right_first E))
      ⊎ ((E : Derivation R Γ (truth B)) × (D ≡ or_right_second E))
  ByRightRule (K says A) D = Unit

  pub by_right_rule : AllSignedBy Anybody Γ → {A : Proposition} (D : Derivation R Γ (truth A)) → ByRightRule A D
  by_right_rule s (init m) = absurd (s _ m)
  by_right_rule s (implies_right D) = tt
  by_right_rule s (implies_left m D E) = absurd (s _ m)
  by_right_rule s (false_left m) = absurd (s _ m)
  by_right_rule s (and_right D E) = tt
  by_right_rule s (and_left m D) = absurd (s _ m)
  by_right_rule s (or_right_first D) = inl (D, refl)
  by_right_rule s (or_right_second D) = inr (D, refl)
  by_right_rule s (or_left m D E) = absurd (s _ m)
  by_right_rule s (says_right D) = tt

pub signed_alone : (R : Relation) → SignedAlone R
signed_alone R Γ s = record {
  no_atom = λ a D. by_right_rule s D;
  no_false = λ D. by_right_rule s D;
  or_by_a_side = λ A B. (
    λ D. ⊎_elim (λ (E, ends). inl E) (λ (E, ends). inr E) (by_right_rule s D),
    λ side. ⊎_elim (λ D. or_right_first D) (λ D. or_right_second D) side,
  );
}

signed_says : (A : Proposition) → SignedBy Anybody A → (K : Principal) × (B : Proposition) × (A ≡ K says B)
signed_says (atom a) none = absurd none
signed_says false none = absurd none
signed_says (A implies B) none = absurd none
signed_says (A and B) none = absurd none
signed_says (A or B) none = absurd none
signed_says (K says A) signed = (K, A, refl)

pub signed_is_says : SignedIsSays
signed_is_says A = (signed_says A, λ (K, B, e). subst (SignedBy Anybody) (sym e) tt)

-- Where nobody says everything, that passes along every relation.
nobody : (R : Relation) (atoms : List Atom) → PassesOn R (suppose atoms [])
nobody R atoms K L r i = absurd (Memᴰ.not-nil i)

pub one_order_more : {R : Relation} → Reflexive R → OneOrderMore R
unfolding holds
one_order_more {R} reflexive = record {
  an_atom = init second;
  a_false = false_left second;
  an_implies =
      implies_left second (says_right (says_left first (reflexive 7) (affirm (init first)))) (init first);
  an_and = and_left second (init first);
  an_or = or_left second (or_right_first (init first)) (or_right_second (init first));
  not_first = no_proof R (suppose (0 ∷ 2 ∷ []) []) (nobody R (0 ∷ 2 ∷ [])) _ (atom 1) refl;
  not_second = no_proof R (suppose (0 ∷ 1 ∷ []) []) (nobody R (0 ∷ 1 ∷ [])) _ (atom 2) refl;
}

-- ---- an or in a paper

-- Whoever says a or b: now he says everything, later a is true, or else b.
said : (R : Relation) (K : Principal) (a b : Atom) → Holds (three_worlds a b R) now (K says (atom a or atom b))
said R K a b now s = inl tt
said R K a b later s = inr (inl refl)
said R K a b or_else s = inr (inr refl)

-- But nobody says either: else a would be true where only b is, or b where only a is.
pub or_in_a_paper_lem : (R : Relation) → OrInAPaper R
or_in_a_paper_lem R K L M a b differ D =
    let three = three_worlds a b R in
    ⊎_elim
    (λ L-says-a. ⊎_elim (λ none. none) differ (L-says-a or_else tt))
    (λ M-says-b. ⊎_elim (λ none. none) (λ e. differ (sym e)) (M-says-b later tt))
    (sound R three now _ _ D (each_of_more (Holds three now) (said R K a b) (each_of_none (Holds three now))))
