-- A proposition has one number, and `number` finds it. Assumes nothing.
use Prim.Native.Nat.{ℕ, zero, suc, ◌<◌}
use native.Mathlib.Omega.{arith}
use native.Mathlib.Decide.{ℕ_discrete}
use mathlib.Core.Path.{◌≡◌, refl, sym, ap, ap₂, ◌∙◌}
use mathlib.Core.List.{List, [], ◌∷◌}
use lib.ListN.{length}
use Rattle.logic.specs.Proposition.{Proposition, Proposition-discrete, atom, false, ◌implies◌, ◌and◌, ◌or◌, ◌says◌}
use Rattle.table.specs.declared.entry.Formula.{Formula}
use Rattle.table.specs.declared.entry.Entry.{Entry}
use Rattle.table.specs.declared.entry.Entry.TheVariants.{Implies, And, Or, Says}
use Rattle.table.specs.Entry.{formula, principal}
use Rattle.table.specs.Spelled.{among, spelled, spell}
use Rattle.table.specs.Number.{unless_equal, position, number}
use Rattle.table.specs.Laws.{Ordered, Distinct, OneNumber, NumberOf}
use Rattle.table.proofs.Spelled.{length_spelled}
use Rattle.table.proofs.Shapes.{OfTwo, OfOne, Spells, spells}

-- ---- one number

module _ (es : List Entry) (ordered : Ordered es) (distinct : Distinct es) where
  -- two numbers of A's shape are equal
  abbrev OneFor : Proposition → Type 0
  OneFor A = (i j : ℕ) → i < length es → j < length es → Spells es i A → Spells es j A → i ≡ j

  -- then two that spell A are
  spelled_once : (A : Proposition) → OneFor A
      → (i j : ℕ) → i < length es → j < length es → spell es i ≡ A → spell es j ≡ A → i ≡ j
  spelled_once A one i j l m p q = one i j l m (spells es ordered i l A p) (spells es ordered j m A q)

  -- numbers of one kind are equal where their operands' numbers are
  of_two : (kind : Formula → Formula → Entry) (A B : Proposition) → OneFor A → OneFor B
      → (i j : ℕ) → i < length es → j < length es → OfTwo es i kind A B → OfTwo es j kind A B → i ≡ j
  of_two kind A B for-A for-B i j l m s t =
      let a = spelled_once A for-A s.one.0 t.one.0 s.one_in t.one_in s.spells_one t.spells_one in
      let b = spelled_once B for-B s.two.0 t.two.0 s.two_in t.two_in s.spells_two t.spells_two in
      distinct i j l m (s.is ∙ ap₂ (λ f g. kind (formula f) (formula g)) a b ∙ sym t.is)

  of_one : (kind : Formula → Entry) (A : Proposition) → OneFor A
      → (i j : ℕ) → i < length es → j < length es → OfOne es i kind A → OfOne es j kind A → i ≡ j
  of_one kind A for-A i j l m s t =
      let a = spelled_once A for-A s.one.0 t.one.0 s.one_in t.one_in s.spells_one t.spells_one in
      distinct i j l m (s.is ∙ ap (λ f. kind (formula f)) a ∙ sym t.is)

  -- by recursion on the proposition
  one_for : (A : Proposition) → OneFor A
  one_for (atom a) = λ i j l m s t. distinct i j l m (s ∙ sym t)
  one_for false = λ i j l m s t. distinct i j l m (s ∙ sym t)
  one_for (A implies B) = of_two Implies A B (one_for A) (one_for B)
  one_for (A and B) = of_two And A B (one_for A) (one_for B)
  one_for (A or B) = of_two Or A B (one_for A) (one_for B)
  one_for (K says A) = of_one (Says (principal K)) A (one_for A)

pub one_number : OneNumber
one_number es ordered distinct i j l m e =
    spelled_once es ordered distinct (spell es j) (one_for es ordered distinct (spell es j)) i j l m e refl

-- ---- the number of a proposition

-- it is the one in front, or it comes later
here : {A B : Proposition} (d : Dec (A ≡ B)) (n : ℕ) → A ≡ B → unless_equal d n ≡ zero
here (yes e) n same = refl
here (no d) n same = absurd (d same)

later : {A B : Proposition} (d : Dec (A ≡ B)) (n : ℕ) → ¬ (A ≡ B) → unless_equal d n ≡ suc n
later (yes e) n differ = absurd (differ e)
later (no d) n differ = refl

-- The position of A is where A stands, if it does not stand before.
pub position_at : (l : List Proposition) (A : Proposition) (i : ℕ) → i < length l → among l i ≡ A
    → ((j : ℕ) → j < i → ¬ (among l j ≡ A)) → position l A ≡ i
unfolding position
position_at [] A i within is none_before = absurd (omega arith)
position_at (B ∷ l) A zero within is none_before = here (Proposition-discrete ℕ_discrete A B) (position l A) (sym is)
position_at (B ∷ l) A (suc i) within is none_before =
    later (Proposition-discrete ℕ_discrete A B) (position l A) (λ e. none_before zero (omega arith) (sym e))
    ∙ ap suc (position_at l A i (omega arith) is (λ j before. none_before (suc j) (omega arith)))

pub number_of : NumberOf
unfolding number
number_of es ordered distinct i l =
    position_at (spelled es) (spell es i) i (omega (arith, length_spelled es)) refl
    (λ j before same. omega (arith, one_number es ordered distinct j i (omega arith) l same))
