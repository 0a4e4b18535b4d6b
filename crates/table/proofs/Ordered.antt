-- What test 4 gives: each entry is well-formed at its number, which is that its operands' numbers are lower. Assumes
-- nothing.
use Prim.Native.Nat.{ℕ, ◌<◌}
use mathlib.Core.Bool.{true, not, false≢true}
use mathlib.Core.Path.{◌≡◌, refl, sym, ap, subst, ◌∙◌}
use mathlib.Core.List.Memᴰ
use mathlib.Core.List.{List, [], ◌∷◌}
use mathlib.Core.Logic.{◌↔◌, ⊎_elim}
use lib.ListN.{length}
use borrow.Author.Tests.{not-false}
use Rattle.basics.specs.Membership.{◌∈◌}
use Rattle.basics.specs.Choice.{both}
use Rattle.basics.proofs.Asked.{less, both_are}
use Rattle.basics.proofs.First.{no_place}
use Rattle.table.specs.declared.entry.Formula.{Formula}
use Rattle.table.specs.declared.entry.Entry.{Entry}
use Rattle.table.specs.declared.entry.Entry.TheVariants.{Atom, False, Implies, And, Or, Says, IllFormed}
use Rattle.table.specs.Tests.{entry_at, lower_than, well_formed_at, wrong_entry}
use Rattle.table.specs.Laws.{operands, WellFormedIs, Ordered, NoFaultOrdered}

-- the numbers of these formulas are lower
abbrev AllLower : ℕ → List Formula → Type 0
AllLower i fs = (f : Formula) → f ∈ fs → f.0 < i

-- of none, of one, of two
lower_none : (i : ℕ) → true ≡ true ↔ AllLower i []
lower_none i = (λ t f m. absurd (Memᴰ.not-nil m), λ all. refl)

lower_one : (i : ℕ) (g : Formula) → lower_than i g ≡ true ↔ AllLower i (g ∷ [])
lower_one i g =
    let (to, from) = less g.0 i in (
      λ t f m. subst (λ (h : Formula). h.0 < i) (sym (Memᴰ.eq_of_singleton m)) (to t),
      λ all. from (all g (Memᴰ.head refl)),
    )

lower_two : (i : ℕ) (g h : Formula) → both (lower_than i g) (lower_than i h) ≡ true ↔ AllLower i (g ∷ h ∷ [])
lower_two i g h =
    let (to, from) = both_are (lower_one i g) (lower_one i h) in (
      λ t f m. ⊎_elim (λ e. (to t).0 f (Memᴰ.head e)) ((to t).1 f) (Memᴰ.cases_cons m),
      λ all. from (λ f m. all f (Memᴰ.head (Memᴰ.eq_of_singleton m)), λ f m. all f (Memᴰ.tail m)),
    )

-- An entry that is well-formed at a number is not ill-formed.
not_ill_formed : (i : ℕ) (e : Entry) → well_formed_at i e ≡ true → ¬ (e ≡ IllFormed)
not_ill_formed i e t is = false≢true (sym (ap (well_formed_at i) is) ∙ t)

-- so it is enough to ask for the operands
formed :
    (i : ℕ) (e : Entry) → well_formed_at i e ≡ true ↔ AllLower i (operands e)
    → well_formed_at i e ≡ true ↔ ((¬ (e ≡ IllFormed)) × AllLower i (operands e))
formed i e (to, from) = (λ t. (not_ill_formed i e t, to t), λ h. from h.1)

pub well_formed_is : WellFormedIs
well_formed_is i (Atom a) = formed i (Atom a) (lower_none i)
well_formed_is i False = formed i False (lower_none i)
well_formed_is i (Implies g h) = formed i (Implies g h) (lower_two i g h)
well_formed_is i (And g h) = formed i (And g h) (lower_two i g h)
well_formed_is i (Or g h) = formed i (Or g h) (lower_two i g h)
well_formed_is i (Says k g) = formed i (Says k g) (lower_one i g)
well_formed_is i IllFormed = (λ t. absurd (false≢true t), λ h. absurd (h.0 refl))

pub no_fault_ordered : NoFaultOrdered
unfolding wrong_entry
no_fault_ordered es =
    let (none, all) = no_place (λ i. not (well_formed_at i (entry_at es i))) (length es) in
    (λ e i l. not-false (well_formed_at i (entry_at es i)) (none e i l), λ ordered. all (λ i l. ap not (ordered i l)))

-- So an entry of a table where 4 finds no fault is not ill-formed, and its operands' numbers are lower.
pub well_formed : (es : List Entry) → Ordered es → (i : ℕ) → i < length es → ¬ (entry_at es i ≡ IllFormed)
well_formed es ordered i l = ((well_formed_is i (entry_at es i)).0 (ordered i l)).0

pub operands_lower :
    (es : List Entry) → Ordered es → (i : ℕ) → i < length es → (f : Formula) → f ∈ operands (entry_at es i) → f.0 < i
operands_lower es ordered i l = ((well_formed_is i (entry_at es i)).0 (ordered i l)).1
