-- What a table has that passed its tests: a proposition stands at its number, by an entry of its kind with the numbers
-- of its parts, and the table has these parts. Assumes nothing.
use Prim.Native.Nat.{ℕ, ◌<◌, ◌≤◌}
use native.Mathlib.Omega.{arith}
use mathlib.Core.Path.{◌≡◌, sym, ap, ap₂, ◌∙◌}
use mathlib.Core.List.{List}
use lib.ListN.{length}
use Rattle.basics.specs.Limits.{most_formulas}
use Rattle.logic.specs.Proposition.{Proposition, atom, false, ◌implies◌, ◌and◌, ◌or◌, ◌says◌}
use Rattle.table.specs.declared.entry.Formula.{Formula}
use Rattle.table.specs.declared.entry.Entry.{Entry}
use Rattle.table.specs.declared.entry.Entry.TheVariants.{Atom, False, Implies, And, Or, Says}
use Rattle.table.specs.Entry as E
use Rattle.table.specs.Tests.{entry_at}
use Rattle.table.specs.Spelled.{spell}
use Rattle.table.specs.Number.{number}
use Rattle.table.specs.Laws.{Ordered, Distinct}
use Rattle.table.proofs.Shapes.{OfOne, OfTwo, Spells, spells}
use Rattle.table.proofs.Number.{number_of}

-- what tests 2, 4 and 5 give
pub record Passed (es : List Entry) : Type 0 where
  pub few : length es ≤ most_formulas
  pub ordered : Ordered es
  pub distinct : Distinct es

-- The table has A: the number of A is below F and spells A.
pub record Has (es : List Entry) (A : Proposition) : Type 0 where
  pub below : number es A < length es
  pub spelled : spell es (number es A) ≡ A

-- the formula of A
abbrev pub formula_of : List Entry → Proposition → Formula
formula_of es A = E.formula (number es A)

-- e has the kind of A and the numbers of A's parts, and the table has these parts.
abbrev pub EntryOf : List Entry → Proposition → Entry → Type 0
EntryOf es (atom a) e = e ≡ Atom (E.atom a)
EntryOf es false e = e ≡ False
EntryOf es (A implies B) e = (e ≡ Implies (formula_of es A) (formula_of es B)) × Has es A × Has es B
EntryOf es (A and B) e = (e ≡ And (formula_of es A) (formula_of es B)) × Has es A × Has es B
EntryOf es (A or B) e = (e ≡ Or (formula_of es A) (formula_of es B)) × Has es A × Has es B
EntryOf es (K says A) e = (e ≡ Says (E.principal K) (formula_of es A)) × Has es A

module _ {es : List Entry} (t : Passed es) where
  -- A number below F is the number of what it spells,
  pub its_number : {n : ℕ} → n < length es → {A : Proposition} → spell es n ≡ A → number es A ≡ n
  its_number {n} l e = ap (number es) (sym e) ∙ number_of es t.ordered t.distinct n l

  -- which the table has.
  pub has : {n : ℕ} → n < length es → {A : Proposition} → spell es n ≡ A → Has es A
  has l e = let is = its_number l e in record { below = omega arith; spelled = ap (spell es) is ∙ e }

  -- an entry with one operand, and with two
  of_one : {n : ℕ} {kind : Formula → Entry} {A : Proposition} → OfOne es n kind A → (entry_at es n ≡ kind (formula_of es A)) × Has es A
  of_one {kind = kind} s =
      let a = its_number s.one_in s.spells_one in
      (s.is ∙ ap (λ i. kind (E.formula i)) (sym a), has s.one_in s.spells_one)

  of_two : {n : ℕ} {kind : Formula → Formula → Entry} {A B : Proposition}
      → OfTwo es n kind A B → (entry_at es n ≡ kind (formula_of es A) (formula_of es B)) × Has es A × Has es B
  of_two {kind = kind} s =
      let a = its_number s.one_in s.spells_one in
      let b = its_number s.two_in s.spells_two in
      (s.is ∙ ap₂ (λ i j. kind (E.formula i) (E.formula j)) (sym a) (sym b), has s.one_in s.spells_one, has s.two_in s.spells_two)

  -- an entry of each kind
  of_shape : (A : Proposition) (n : ℕ) → Spells es n A → EntryOf es A (entry_at es n)
  of_shape (atom a) n s = s
  of_shape false n s = s
  of_shape (A implies B) n s = of_two s
  of_shape (A and B) n s = of_two s
  of_shape (A or B) n s = of_two s
  of_shape (K says A) n s = of_one s

  -- A stands at its number.
  pub entry_of : (A : Proposition) → Has es A → EntryOf es A (entry_at es (number es A))
  entry_of A h = of_shape A (number es A) (spells es t.ordered (number es A) h.below A h.spelled)
