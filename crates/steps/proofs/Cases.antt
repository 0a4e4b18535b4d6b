-- Cases of a step: what holds of each continuation, under the equation that leads there, holds of the whole. In order:
-- what "of what is opened" means; a goal's kinds; an entry's kinds; a list's positions. Assumes nothing.
use Prim.Native.Nat.{ℕ, zero, suc, ◌≤◌}
use native.Mathlib.Omega.{arith}
use mathlib.Core.Bool.{Bool, true, false}
use mathlib.Core.Path.{◌≡◌, refl, sym, ap, ◌∙◌}
use mathlib.Core.Option.{Option, none, some}
use mathlib.Core.List.{List, [], ◌∷◌}
use lib.ListN.{length, get_or}
use lib.Dec.{eqb}
use borrow.Author.Tests.{eqb-false}
use Rattle.basics.proofs.Choice.{pick_cases}
use Rattle.table.specs.declared.entry.Atom as A
use Rattle.table.specs.declared.entry.Formula.{Formula}
use Rattle.table.specs.declared.entry.Principal.{Principal}
use Rattle.table.specs.declared.entry.Entry.{Entry}
use Rattle.table.specs.declared.entry.Entry.TheVariants.{Atom, False, Implies, And, Or, Says, IllFormed}
use Rattle.steps.specs.declared.goal.Goal.{Goal}
use Rattle.steps.specs.declared.goal.Goal.TheVariants.{True, Affirms}
use Rattle.steps.specs.declared.opened.Premise.{Premise}
use Rattle.steps.specs.declared.opened.Opened.{Opened}
use Rattle.steps.specs.declared.opened.Opened.TheVariants.{Refused, Closed, One, Two}
use Rattle.steps.specs.Needs.{truth, affirmation, by_kind, other, other₂, is_atom, is_false, is_implies, is_and, is_or, is_says}
use Rattle.steps.specs.Reasons as Kind
use Rattle.steps.specs.Reasons.{kind_of}
use Rattle.steps.specs.Rules.{served_by}

-- Q holds of a refusal's number, P of the premises.
abbrev pub OfOpened : (ℕ → Type 0) → (List Premise → Type 0) → Opened → Type 0
OfOpened Q P (Refused number) = Q number
OfOpened Q P Closed = P []
OfOpened Q P (One a) = P (a ∷ [])
OfOpened Q P (Two a b) = P (a ∷ b ∷ [])

-- What they entail holds too.
pub of_opened : (Q Q' : ℕ → Type 0) (P P' : List Premise → Type 0) (x : Opened)
    → ((n : ℕ) → Q n → Q' n) → ((ps : List Premise) → P ps → P' ps) → OfOpened Q P x → OfOpened Q' P' x
of_opened Q Q' P P' (Refused number) f g p = f number p
of_opened Q Q' P P' Closed f g p = g [] p
of_opened Q Q' P P' (One a) f g p = g (a ∷ []) p
of_opened Q Q' P P' (Two a b) f g p = g (a ∷ b ∷ []) p

-- P holds of the premises, unless there is a refusal.
abbrev pub OfPremises : (List Premise → Type 0) → Opened → Type 0
OfPremises P x = OfOpened (λ n. Unit) P x

pub of_premises : (P Q : List Premise → Type 0) (x : Opened) → ((ps : List Premise) → P ps → Q ps) → OfPremises P x → OfPremises Q x
of_premises P Q x f p = of_opened (λ n. Unit) (λ n. Unit) P Q x (λ n u. u) f p

-- ---- goals

module _ (Q : Goal → ℕ → Type 0) (P : Goal → List Premise → Type 0) where
  pub truth_cases : (next : Formula → Opened) → ((f : Formula) → OfOpened (Q (True f)) (P (True f)) (next f))
      → ((k : Principal) (f : Formula) → Q (Affirms k f) 13) → (g : Goal) → OfOpened (Q g) (P g) (truth g next)
  truth_cases next p q (True f) = p f
  truth_cases next p q (Affirms k f) = q k f

  pub affirmation_cases : (next : Principal → Formula → Opened)
      → ((k : Principal) (f : Formula) → OfOpened (Q (Affirms k f)) (P (Affirms k f)) (next k f)) → ((f : Formula) → Q (True f) 13)
      → (g : Goal) → OfOpened (Q g) (P g) (affirmation g next)
  affirmation_cases next p q (True f) = q f
  affirmation_cases next p q (Affirms k f) = p k f

  pub served_cases : (speaks : ℕ → ℕ → Bool) (k : Principal) (next : Goal → Opened)
      → ((l : Principal) (f : Formula) → speaks k.0 l.0 ≡ true → OfOpened (Q (Affirms l f)) (P (Affirms l f)) (next (Affirms l f)))
      → ((l : Principal) (f : Formula) → speaks k.0 l.0 ≡ false → Q (Affirms l f) 14) → ((f : Formula) → Q (True f) 14)
      → (g : Goal) → OfOpened (Q g) (P g) (served_by speaks k g (next g))
  served_cases speaks k next p q r (True f) = r f
  served_cases speaks k next p q r (Affirms l f) =
      pick_cases (OfOpened (Q (Affirms l f)) (P (Affirms l f))) (speaks k.0 l.0) (p l f) (q l f)

-- ---- entries

-- the number of a kind; 6 where there is none
abbrev numbered : Option Kind.Kind → ℕ
numbered (some Kind.atom) = 0
numbered (some Kind.false) = 1
numbered (some Kind.implies) = 2
numbered (some Kind.and) = 3
numbered (some Kind.or) = 4
numbered (some Kind.says) = 5
numbered none = 6

module _ (Q : ℕ → Type 0) (P : List Premise → Type 0) where
  module _ (anAtom aFalse : Opened) (anImplies anAnd anOr : Formula → Formula → Opened) (aSays : Principal → Formula → Opened) where
    -- the six kinds at once, and what is ill-formed
    pub by_kind_lem : (e : Entry)
        → ((a : A.Atom) → e ≡ Atom a → OfOpened Q P anAtom)
        → (e ≡ False → OfOpened Q P aFalse)
        → ((f g : Formula) → e ≡ Implies f g → OfOpened Q P (anImplies f g))
        → ((f g : Formula) → e ≡ And f g → OfOpened Q P (anAnd f g))
        → ((f g : Formula) → e ≡ Or f g → OfOpened Q P (anOr f g))
        → ((k : Principal) (f : Formula) → e ≡ Says k f → OfOpened Q P (aSays k f))
        → (e ≡ IllFormed → Q 13)
        → OfOpened Q P (by_kind anAtom aFalse anImplies anAnd anOr aSays e)
    by_kind_lem (Atom a) p q r s t u v = p a refl
    by_kind_lem False p q r s t u v = q refl
    by_kind_lem (Implies f g) p q r s t u v = r f g refl
    by_kind_lem (And f g) p q r s t u v = s f g refl
    by_kind_lem (Or f g) p q r s t u v = t f g refl
    by_kind_lem (Says k f) p q r s t u v = u k f refl
    by_kind_lem IllFormed p q r s t u v = v refl

  -- Any other kind than k is refused: `q` has it of what isn't of kind k.
  module _ (e : Entry) (k : Kind.Kind) (q : ¬ (kind_of e ≡ some k) → Q 13) where
    otherwise : {e' : Entry} → e ≡ e' → eqb (numbered (kind_of e')) (numbered (some k)) ≡ false → Q 13
    otherwise is differ = q (λ of_kind. eqb-false _ _ differ (ap numbered (sym (ap kind_of is) ∙ of_kind)))

  -- one kind, where the others are refused
  module _ (e : Entry) where
    pub atom_cases : (next : Opened)
        → ((a : A.Atom) → e ≡ Atom a → OfOpened Q P next) → (¬ (kind_of e ≡ some Kind.atom) → Q 13) → OfOpened Q P (is_atom e next)
    atom_cases next p q =
        by_kind_lem next other other₂ other₂ other₂ other₂ e p (λ i. otherwise e _ q i refl) (λ f g i. otherwise e _ q i refl) (λ f g i. otherwise e _ q i refl)
        (λ f g i. otherwise e _ q i refl) (λ k f i. otherwise e _ q i refl) (λ i. otherwise e _ q i refl)

    pub false_cases : (next : Opened)
        → (e ≡ False → OfOpened Q P next) → (¬ (kind_of e ≡ some Kind.false) → Q 13) → OfOpened Q P (is_false e next)
    false_cases next p q =
        by_kind_lem other next other₂ other₂ other₂ other₂ e (λ a i. otherwise e _ q i refl) p (λ f g i. otherwise e _ q i refl) (λ f g i. otherwise e _ q i refl)
        (λ f g i. otherwise e _ q i refl) (λ k f i. otherwise e _ q i refl) (λ i. otherwise e _ q i refl)

    pub implies_cases : (next : Formula → Formula → Opened)
        → ((f g : Formula) → e ≡ Implies f g → OfOpened Q P (next f g)) → (¬ (kind_of e ≡ some Kind.implies) → Q 13)
        → OfOpened Q P (is_implies e next)
    implies_cases next p q =
        by_kind_lem other other next other₂ other₂ other₂ e (λ a i. otherwise e _ q i refl) (λ i. otherwise e _ q i refl) p (λ f g i. otherwise e _ q i refl)
        (λ f g i. otherwise e _ q i refl) (λ k f i. otherwise e _ q i refl) (λ i. otherwise e _ q i refl)

    pub and_cases : (next : Formula → Formula → Opened)
        → ((f g : Formula) → e ≡ And f g → OfOpened Q P (next f g)) → (¬ (kind_of e ≡ some Kind.and) → Q 13)
        → OfOpened Q P (is_and e next)
    and_cases next p q =
        by_kind_lem other other other₂ next other₂ other₂ e (λ a i. otherwise e _ q i refl) (λ i. otherwise e _ q i refl) (λ f g i. otherwise e _ q i refl) p
        (λ f g i. otherwise e _ q i refl) (λ k f i. otherwise e _ q i refl) (λ i. otherwise e _ q i refl)

    pub or_cases : (next : Formula → Formula → Opened)
        → ((f g : Formula) → e ≡ Or f g → OfOpened Q P (next f g)) → (¬ (kind_of e ≡ some Kind.or) → Q 13)
        → OfOpened Q P (is_or e next)
    or_cases next p q =
        by_kind_lem other other other₂ other₂ next other₂ e (λ a i. otherwise e _ q i refl) (λ i. otherwise e _ q i refl) (λ f g i. otherwise e _ q i refl)
        (λ f g i. otherwise e _ q i refl) p (λ k f i. otherwise e _ q i refl) (λ i. otherwise e _ q i refl)

    pub says_cases : (next : Principal → Formula → Opened)
        → ((k : Principal) (f : Formula) → e ≡ Says k f → OfOpened Q P (next k f)) → (¬ (kind_of e ≡ some Kind.says) → Q 13)
        → OfOpened Q P (is_says e next)
    says_cases next p q =
        by_kind_lem other other other₂ other₂ other₂ next e (λ a i. otherwise e _ q i refl) (λ i. otherwise e _ q i refl) (λ f g i. otherwise e _ q i refl)
        (λ f g i. otherwise e _ q i refl) (λ f g i. otherwise e _ q i refl) p (λ i. otherwise e _ q i refl)

-- ---- lists

-- P holds of each element at its position
abbrev pub Each : {A : Type 0} → (ℕ → A → Type 0) → List A → Type 0
Each P [] = Unit
Each P (a ∷ l) = P 0 a × Each (λ c. P (suc c)) l

-- one element, and then the others
infixr 1 ◌then◌
abbrev pub ◌then◌ : {A B : Type 0} → A → B → A × B
a then b = (a, b)

-- So it holds of what stands at c, if past the end it holds of what stands for nothing.
pub get_d_cases : {A : Type 0} (P : ℕ → A → Type 0) (l : List A) (nothing : A)
    → Each P l → ((c : ℕ) → length l ≤ c → P c nothing) → (c : ℕ) → P c (get_or l c nothing)
get_d_cases P [] nothing each other c = other c (omega arith)
get_d_cases P (a ∷ l) nothing each other zero = each.0
get_d_cases P (a ∷ l) nothing each other (suc c) = get_d_cases (λ d. P (suc d)) l nothing each.1 (λ d i. other (suc d) (omega arith)) c
