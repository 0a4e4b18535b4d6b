-- An entry's kind and its proposition's kind are the same: from the entry to the proposition (`spell_at`), and back
-- (`spells`). Assumes nothing.
use Prim.Native.Nat.{ℕ, ◌<◌, ◌≤◌}
use native.Mathlib.Omega.{arith}
use mathlib.Core.Path.{◌≡◌, refl, sym, ap, subst, ◌∙◌}
use mathlib.Core.List.Memᴰ
use mathlib.Core.List.{List}
use lib.ListN.{length, get_or-eq_default}
use Rattle.basics.specs.Membership.{◌∈◌}
use Rattle.basics.proofs.Membership.{first, second}
use Rattle.logic.specs.Proposition.{Proposition, atom, false, ◌implies◌, ◌and◌, ◌or◌, ◌says◌}
use Rattle.table.specs.declared.entry.Formula.{Formula}
use Rattle.table.specs.declared.entry.Entry.{Entry}
use Rattle.table.specs.declared.entry.Entry.TheVariants.{Atom, False, Implies, And, Or, Says, IllFormed}
use Rattle.table.specs.Entry as E
use Rattle.table.specs.Tests.{entry_at}
use Rattle.table.specs.Spelled.{proposition, spelled, spell}
use Rattle.table.specs.Laws.{Ordered, operands}
use Rattle.table.proofs.Ordered.{well_formed, operands_lower}
use Rattle.table.proofs.Spelled.{made_of_operands}

-- ---- from an entry

-- What is well-formed stands in the table.
pub in_table : (es : List Entry) (n : ℕ) (e : Entry) → entry_at es n ≡ e → ¬ (e ≡ IllFormed) → n < length es
in_table es n e is formed =
    let inside : ¬ (length es ≤ n) = λ l. formed (sym is ∙ get_or-eq_default es IllFormed l) in
    omega arith

-- the operands' numbers are below F
abbrev pub OperandsIn : List Entry → Entry → Type 0
OperandsIn es (Atom a) = Unit
OperandsIn es False = Unit
OperandsIn es (Implies f g) = (f.0 < length es) × (g.0 < length es)
OperandsIn es (And f g) = (f.0 < length es) × (g.0 < length es)
OperandsIn es (Or f g) = (f.0 < length es) × (g.0 < length es)
OperandsIn es (Says k f) = f.0 < length es
OperandsIn es IllFormed = Unit

module _ (es : List Entry) (ordered : Ordered es) (n : ℕ) where
  -- The proposition of an entry that is known, as `spell es f.0 implies spell es g.0` where it is `Implies f g`.
  pub spell_at : {e : Entry} → entry_at es n ≡ e → spell es n ≡ proposition (spelled es) e
  spell_at is = made_of_operands es ordered n ∙ ap (proposition (spelled es)) is

  -- an operand has a lower number, and so one below F
  operand_in : {e : Entry} → entry_at es n ≡ e → (f : Formula) → f ∈ operands e → f.0 < length es
  operand_in {e} is f m =
      let l = in_table es n e is (λ ill. Memᴰ.not-nil (subst (λ d. f ∈ operands d) ill m)) in
      omega (arith, operands_lower es ordered n l f (subst (λ d. f ∈ operands d) (sym is) m))

  -- So both operands of `Implies f g` have.
  pub operands_in : {e : Entry} → entry_at es n ≡ e → OperandsIn es e
  operands_in {e = Atom a} is = tt
  operands_in {e = False} is = tt
  operands_in {e = Implies f g} is = (operand_in is f first, operand_in is g second)
  operands_in {e = And f g} is = (operand_in is f first, operand_in is g second)
  operands_in {e = Or f g} is = (operand_in is f first, operand_in is g second)
  operands_in {e = Says k f} is = operand_in is f first
  operands_in {e = IllFormed} is = tt

-- ---- from a proposition

-- Entry n has this kind, and its two operands spell A and B.
pub record OfTwo (es : List Entry) (n : ℕ) (kind : Formula → Formula → Entry) (A B : Proposition) : Type 0 where
  pub one : Formula
  pub two : Formula
  pub is : entry_at es n ≡ kind one two
  pub one_in : one.0 < length es
  pub two_in : two.0 < length es
  pub spells_one : spell es one.0 ≡ A
  pub spells_two : spell es two.0 ≡ B

-- Entry n has this kind, and its one operand spells A.
pub record OfOne (es : List Entry) (n : ℕ) (kind : Formula → Entry) (A : Proposition) : Type 0 where
  pub one : Formula
  pub is : entry_at es n ≡ kind one
  pub one_in : one.0 < length es
  pub spells_one : spell es one.0 ≡ A

-- Entry n has the kind of the proposition, and its operands spell the parts.
abbrev pub Spells : List Entry → ℕ → Proposition → Type 0
Spells es n (atom a) = entry_at es n ≡ Atom (E.atom a)
Spells es n false = entry_at es n ≡ False
Spells es n (A implies B) = OfTwo es n Implies A B
Spells es n (A and B) = OfTwo es n And A B
Spells es n (A or B) = OfTwo es n Or A B
Spells es n (K says A) = OfOne es n (Says (E.principal K)) A

module _ (es : List Entry) (ordered : Ordered es) (n : ℕ) where
  -- an entry of two operands spells out a proposition of its kind
  with_two : (kind : Formula → Formula → Entry) (f g : Formula) → entry_at es n ≡ kind f g → (f.0 < length es) × (g.0 < length es)
      → OfTwo es n kind (spell es f.0) (spell es g.0)
  with_two kind f g is (l, m) = record { one = f; two = g; is = is; one_in = l; two_in = m; spells_one = refl; spells_two = refl }

  -- and so does every entry that is not ill-formed
  spells_entry : (e : Entry) → entry_at es n ≡ e → ¬ (e ≡ IllFormed) → Spells es n (proposition (spelled es) e)
  spells_entry (Atom a) is formed = is
  spells_entry False is formed = is
  spells_entry (Implies f g) is formed = with_two Implies f g is (operands_in es ordered n is)
  spells_entry (And f g) is formed = with_two And f g is (operands_in es ordered n is)
  spells_entry (Or f g) is formed = with_two Or f g is (operands_in es ordered n is)
  spells_entry (Says k f) is formed = record { one = f; is = is; one_in = operands_in es ordered n is; spells_one = refl }
  spells_entry IllFormed is formed = absurd (formed refl)

  -- Below F, what entry n spells has its kind.
  pub spells : n < length es → (A : Proposition) → spell es n ≡ A → Spells es n A
  spells l A e = subst (Spells es n) (sym (made_of_operands es ordered n) ∙ e) (spells_entry (entry_at es n) refl (well_formed es ordered n l))
