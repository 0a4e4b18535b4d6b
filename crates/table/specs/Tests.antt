-- Tests 2, 4 and 5 of 01 for a table that is lent as two parallel arrays, heads and seconds. Assumes nothing.
use Rattle.std.specs.Prelude.{ℕ, Bool, true, false, not, ◌≡◌, List, [], ◌∷◌, length, get_or, eqb, ltb, leb}
use Rattle.basics.specs.Place.{Place}
use Rattle.basics.specs.Tested.{Tested}
use Rattle.basics.specs.Limits.{most_formulas}
use Rattle.basics.specs.Choice.{both}
use Rattle.basics.specs.First.{first, found}
use Rattle.basics.specs.Refusals.{Test, test, at0, first_refusal}
use Rattle.table.specs.declared.entry.Formula.{Formula}
use Rattle.table.specs.declared.entry.Entry.{Entry}
use Rattle.table.specs.declared.entry.Entry.TheVariants.{Atom, False, Implies, And, Or, Says, IllFormed}
use Rattle.table.specs.declared.lent.Table.{Table}
use Rattle.table.specs.Entry.{entry}

-- "Then two parallel arrays of F words each, heads and seconds." Of arrays of unlike length, as far as both go.
unfoldable pub entries : List ℕ → List ℕ → List Entry
entries [] seconds = []
entries (h ∷ hs) [] = []
entries (h ∷ hs) (s ∷ ss) = entry h s ∷ entries hs ss

-- those of a table as the code is lent it
abbrev pub entries_of : Table → List Entry
entries_of table = entries table.heads.now table.seconds.now

-- A number of F or more has no entry: it is ill-formed.
abbrev pub entry_at : List Entry → ℕ → Entry
entry_at es n = get_or es n IllFormed

-- "An operand that is a formula has a lower number than the entry that uses it."
abbrev pub lower_than : ℕ → Formula → Bool
lower_than i f = ltb f.0 i

abbrev pub well_formed_at : ℕ → Entry → Bool
well_formed_at i (Atom a) = true
well_formed_at i False = true
well_formed_at i (Implies f g) = both (lower_than i f) (lower_than i g)
well_formed_at i (And f g) = both (lower_than i f) (lower_than i g)
well_formed_at i (Or f g) = both (lower_than i f) (lower_than i g)
well_formed_at i (Says k f) = lower_than i f
well_formed_at i IllFormed = false

-- "4. An entry has kind 6 or more or a wrong operand (place: the first such entry)."
unfoldable pub wrong_entry : List Entry → Place
wrong_entry es = first (λ i. not (well_formed_at i (entry_at es i))) (length es)

-- whether positions i and j have the same head and the same second
abbrev pub same : List ℕ → List ℕ → ℕ → ℕ → Bool
same heads seconds i j = both (eqb (get_or heads i 0) (get_or heads j 0)) (eqb (get_or seconds i 0) (get_or seconds j 0))

-- "5. An entry has the head and second of an earlier one (place: the first such later entry; ..)."
unfoldable pub repeated_entry : List ℕ → List ℕ → Place
repeated_entry heads seconds = first (λ i. found (first (same heads seconds i) i)) (length heads)

-- "A table lent as two arrays of unlike length meets 2." F is 1 to 4,096.
abbrev pub sized : List ℕ → List ℕ → Bool
sized heads seconds = both (eqb (length heads) (length seconds)) (both (leb 1 (length heads)) (leb (length heads) most_formulas))

-- two arrays of this size: what private functions of the checks ask of their callers
abbrev pub SizedTable : List ℕ → List ℕ → Type 0
SizedTable heads seconds = sized heads seconds ≡ true

-- 4 and 5, in this order. "5 .. tested after 4 has passed the whole table"
abbrev pub entry_tests : List ℕ → List ℕ → List Test
entry_tests heads seconds = test 4 (wrong_entry (entries heads seconds)) ∷ test 5 (repeated_entry heads seconds) ∷ []

-- 2, 4 and 5
unfoldable pub table_tests : List ℕ → List ℕ → Tested
table_tests heads seconds = first_refusal (test 2 (at0 (not (sized heads seconds))) ∷ entry_tests heads seconds)
