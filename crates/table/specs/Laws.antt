-- An entry and its words, and what tests 4 and 5 give. Each statement is proved in proofs/ under its name in small
-- letters; what stands above this crate uses these and not the tests' definitions. Assumes nothing.
use Rattle.std.specs.Prelude.{ℕ, ◌<◌, ◌≤◌, true, ◌≡◌, ◌↔◌, List, [], ◌∷◌, length, get_or}
use Rattle.basics.specs.Membership.{◌∈◌}
use Rattle.basics.specs.Place.{Nowhere}
use Rattle.basics.specs.Tested.{Passed}
use Rattle.basics.specs.Limits.{most_formulas, most_atoms, most_principals}
use Rattle.table.specs.declared.entry.Formula.{Formula}
use Rattle.table.specs.declared.entry.Entry.{Entry}
use Rattle.table.specs.declared.entry.Entry.TheVariants.{Atom, False, Implies, And, Or, Says, IllFormed}
use Rattle.table.specs.Entry.{entry, head_of, second_of}
use Rattle.table.specs.Tests.{entries, entry_at, well_formed_at, wrong_entry, repeated_entry, table_tests}
use Rattle.table.specs.Spelled.{proposition, spelled, spell}
use Rattle.table.specs.Number.{number}

-- The first operand has a number that fits beside the kind: "Atoms and principals are numbered 0 to 4,095" (01), and a
-- formula's number is below 4,096.
abbrev pub FirstFits : Entry → Type 0
FirstFits (Atom a) = a.0 < most_atoms
FirstFits False = Unit
FirstFits (Implies f g) = f.0 < most_formulas
FirstFits (And f g) = f.0 < most_formulas
FirstFits (Or f g) = f.0 < most_formulas
FirstFits (Says k f) = k.0 < most_principals
FirstFits IllFormed = ⊥

-- Taking an entry's words apart gives the entry back,
abbrev pub EntryOfWords : Type 0
EntryOfWords = (e : Entry) → FirstFits e → entry (head_of e) (second_of e) ≡ e

-- and an entry that isn't ill-formed has the words that it was taken from.
abbrev pub WordsOfEntry : Type 0
WordsOfEntry =
    (head second : ℕ) → ¬ (entry head second ≡ IllFormed)
    → (head_of (entry head second) ≡ head) × (second_of (entry head second) ≡ second) × FirstFits (entry head second)

-- the formulas that an entry uses
abbrev pub operands : Entry → List Formula
operands (Atom a) = []
operands False = []
operands (Implies f g) = f ∷ g ∷ []
operands (And f g) = f ∷ g ∷ []
operands (Or f g) = f ∷ g ∷ []
operands (Says k f) = f ∷ []
operands IllFormed = []

-- An entry is well-formed at a number exactly when it is not ill-formed and its operands' numbers are lower: "An
-- operand that is a formula has a lower number than the entry that uses it." (01)
abbrev pub WellFormedIs : Type 0
WellFormedIs =
    (i : ℕ) (e : Entry) → well_formed_at i e ≡ true ↔ ((¬ (e ≡ IllFormed)) × ((f : Formula) → f ∈ operands e → f.0 < i))

-- 4 finds no fault exactly when each entry is well-formed at its number.
abbrev pub Ordered : List Entry → Type 0
Ordered es = (i : ℕ) → i < length es → well_formed_at i (entry_at es i) ≡ true

abbrev pub NoFaultOrdered : Type 0
NoFaultOrdered = (es : List Entry) → wrong_entry es ≡ Nowhere ↔ Ordered es

-- Each entry's proposition is its kind applied to the propositions of its operands, and what is no entry spells false.
abbrev pub MadeOfOperands : Type 0
MadeOfOperands = (es : List Entry) → Ordered es → (n : ℕ) → spell es n ≡ proposition (spelled es) (entry_at es n)

-- Two numbers below F with equal entries are equal; 4 and 5 together give this.
abbrev pub Distinct : List Entry → Type 0
Distinct es = (i j : ℕ) → i < length es → j < length es → entry_at es i ≡ entry_at es j → i ≡ j

abbrev pub NoFaultDistinct : Type 0
NoFaultDistinct =
    (heads seconds : List ℕ) → length heads ≡ length seconds
    → Ordered (entries heads seconds) → repeated_entry heads seconds ≡ Nowhere → Distinct (entries heads seconds)

-- no two entries have the same head and second
abbrev pub NoneRepeated : List ℕ → List ℕ → Type 0
NoneRepeated heads seconds =
    (i j : ℕ) → i < j → j < length heads
    → get_or heads i 0 ≡ get_or heads j 0 → get_or seconds i 0 ≡ get_or seconds j 0 → ⊥

-- 5 applies nowhere exactly when there are no two.
abbrev pub NotRepeated : Type 0
NotRepeated = (heads seconds : List ℕ) → repeated_entry heads seconds ≡ Nowhere ↔ NoneRepeated heads seconds

-- What a table has that passes 2, 4 and 5.
pub record Good (heads seconds : List ℕ) : Type 0 where
  pub same_length : length heads ≡ length seconds
  pub few : length heads ≤ most_formulas
  pub ordered : Ordered (entries heads seconds)
  pub distinct : Distinct (entries heads seconds)

abbrev pub PassedIsGood : Type 0
PassedIsGood = (heads seconds : List ℕ) → table_tests heads seconds ≡ Passed → Good heads seconds

-- Two numbers below F with the same proposition are equal, and the number of a proposition is the number that spells
-- it.
abbrev pub OneNumber : Type 0
OneNumber =
    (es : List Entry) → Ordered es → Distinct es → (i j : ℕ) → i < length es → j < length es → spell es i ≡ spell es j → i ≡ j

abbrev pub NumberOf : Type 0
NumberOf = (es : List Entry) → Ordered es → Distinct es → (i : ℕ) → i < length es → number es (spell es i) ≡ i
