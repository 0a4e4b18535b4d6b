-- From the premises of a rule that applies to what it concludes: derivations of the premises, whose words stand one
-- after the other, give one of the goal, whose words are the step's word and then theirs. Assumes nothing.
use Prim.Native.Nat.{ℕ, suc, ◌≤◌}
use mathlib.Core.Bool.{Bool}
use mathlib.Core.Path.{◌≡◌, refl, sym, ap, subst, ◌∙◌}
use mathlib.Core.List.Memᴰ
use mathlib.Core.List.{List, ◌∷◌, ◌++◌}
use Rattle.basics.specs.Membership.{◌∈◌}
use Rattle.basics.specs.Word.{word}
use Rattle.logic.specs.Proposition.{Proposition}
use Rattle.logic.specs.Judgment.{Judgment, truth}
use Rattle.logic.specs.Principals.{Relation, Decides}
use Rattle.logic.specs.Derivation.{Derivation}
use Rattle.logic.specs.Depth.{step_depths}
use Rattle.table.specs.declared.entry.Entry.{Entry}
use Rattle.table.specs.Tests.{entry_at}
use Rattle.table.specs.Spelled.{proposition, spelled, spell, spell_all}
use Rattle.table.specs.Number.{number}
use Rattle.table.specs.Laws.{Ordered, Distinct}
use Rattle.table.proofs.Shapes.{spell_at}
use Rattle.table.proofs.Number.{number_of}
use Rattle.steps.specs.declared.goal.Goal.{Goal}
use Rattle.steps.specs.declared.opened.Premise.{Premise}
use Rattle.steps.specs.Obligation.{added}
use Rattle.steps.specs.Words.{words}
use Rattle.steps.specs.Carried.{judgment}
use Rattle.steps.specs.Applies.{Named, Applies, init, affirm, implies_right, implies_left, false_left, and_right, and_left, or_right_first, or_right_second, or_left, says_right, says_left}
use Rattle.steps.proofs.Chain.{Chain}
use Rattle.steps.proofs.Begins.{Begins, nothing, first, both, ends}

-- Γ has what each of the numbers spells.
abbrev pub Covers : List Entry → List Proposition → List ℕ → Type 0
Covers es Γ hs = (n : ℕ) → n ∈ hs → spell es n ∈ Γ

module _ (R : Relation) (limit : ℕ) (es : List Entry) where
  -- A derivation whose first step has depth d, none of whose steps is too deep, and with whose words ws begins.
  abbrev pub Derived : List Proposition → Judgment → ℕ → List ℕ → List ℕ → Type 0
  Derived Γ γ d ws rest = (D : Derivation R Γ γ) × Begins limit (step_depths d D) (words (number es) D) ws rest

  -- the same of a premise: its hypotheses are added
  abbrev pub DerivedPremise : List Proposition → ℕ → Premise → List ℕ → List ℕ → Type 0
  DerivedPremise Γ d p = Derived (spell_all es (added p.added) ++ Γ) (judgment es p.goal) (suc d)

  module _ (ordered : Ordered es) (distinct : Distinct es) (speaks : ℕ → ℕ → Bool) (decides : Decides speaks R)
      (Γ : List Proposition) (hs : List ℕ) (covers : Covers es Γ hs) (d : ℕ) (fits : d ≤ limit) where
    -- the named proposition is a hypothesis, and the word has its number
    left : {n : ℕ} {e : Entry} (code : ℕ) → Named es hs n → entry_at es n ≡ e
        → (proposition (spelled es) e ∈ Γ) × (word code n ≡ word code (number es (proposition (spelled es) e)))
    left {n} code h e =
        let is = spell_at es ordered n e in (
          Memᴰ.cast (sym is) (covers n h.is_held),
          ap (word code) (sym (number_of es ordered distinct n h.in_table) ∙ ap (number es) is),
        )

    -- the goal is the truth of what its entry spells
    right : (n : ℕ) {e : Entry} {ws rest : List ℕ}
        → entry_at es n ≡ e → Derived Γ (truth (proposition (spelled es) e)) d ws rest → Derived Γ (truth (spell es n)) d ws rest
    right n {ws = ws} {rest = rest} e = subst (λ A. Derived Γ (truth A) d ws rest) (sym (spell_at es ordered n e))

    -- 01's table, row by row: m finds the named hypothesis, D and E derive the premises, w, p and q are about words,
    -- and z ends them.
    pub derived : {c n : ℕ} {g : Goal} {ps : List Premise} {ws rest : List ℕ}
        → Applies speaks es hs c n g ps → Chain (DerivedPremise Γ d) ps ws rest → Derived Γ (judgment es g) d (word c n ∷ ws) rest
    derived (init h e) z = let (m, w) = left 0 h e in right _ e (Derivation.init m, first fits w (nothing z))
    derived affirm (_, (D, p), z) = (Derivation.affirm D, first fits refl (ends p z))
    derived (implies_right e) (_, (D, p), z) = right _ e (Derivation.implies_right D, first fits refl (ends p z))
    derived (implies_left h e) (_, (D, p), (_, (E, q), z)) =
        let (m, w) = left 3 h e in (Derivation.implies_left m D E, first fits w (both p (ends q z)))
    derived (false_left h e) z = let (m, w) = left 4 h e in (Derivation.false_left m, first fits w (nothing z))
    derived (and_right e) (_, (D, p), (_, (E, q), z)) = right _ e (Derivation.and_right D E, first fits refl (both p (ends q z)))
    derived (and_left h e) (_, (D, p), z) = let (m, w) = left 6 h e in (Derivation.and_left m D, first fits w (ends p z))
    derived (or_right_first e) (_, (D, p), z) = right _ e (Derivation.or_right_first D, first fits refl (ends p z))
    derived (or_right_second e) (_, (D, p), z) = right _ e (Derivation.or_right_second D, first fits refl (ends p z))
    derived (or_left h e) (_, (D, p), (_, (E, q), z)) =
        let (m, w) = left 9 h e in (Derivation.or_left m D E, first fits w (both p (ends q z)))
    derived (says_right e) (_, (D, p), z) = right _ e (Derivation.says_right D, first fits refl (ends p z))
    derived (says_left h e s) (_, (D, p), z) =
        let (m, w) = left 11 h e in (Derivation.says_left m ((decides _ _).0 s) D, first fits w (ends p z))
