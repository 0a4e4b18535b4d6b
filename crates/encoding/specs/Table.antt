-- The table of a list of propositions, entry by entry, in the order of the list. Proved in proofs/Table.antt.
-- Assumes nothing.
use Rattle.std.specs.Prelude.{ℕ, ◌≤◌, ◌≡◌, List, map, length}
use Rattle.basics.specs.Membership.{◌∈◌}
use Rattle.basics.specs.Limits.{most_formulas}
use Rattle.logic.specs.Proposition.{Proposition, atom, false, ◌implies◌, ◌and◌, ◌or◌, ◌says◌}
use Rattle.table.specs.declared.entry.Entry.{Entry}
use Rattle.table.specs.declared.entry.Entry.TheVariants.{Atom, False, Implies, And, Or, Says}
use Rattle.table.specs.Entry as E
use Rattle.table.specs.Entry.{formula, principal, head_of, second_of}
use Rattle.table.specs.Spelled.{spelled}
use Rattle.table.specs.Number.{position}
use Rattle.table.specs.Tests.{entries}
use Rattle.table.specs.Laws.{Ordered, NoneRepeated}
use Rattle.encoding.specs.Bounds.{NumberFits}
use Rattle.encoding.specs.Subformulas.{TableOrder}

-- the entry of a proposition, where the formulas of the table are these: an operand's number is its position
abbrev pub entry_of : List Proposition → Proposition → Entry
entry_of formulas (atom a) = Atom (E.atom a)
entry_of formulas false = False
entry_of formulas (A implies B) = Implies (formula (position formulas A)) (formula (position formulas B))
entry_of formulas (A and B) = And (formula (position formulas A)) (formula (position formulas B))
entry_of formulas (A or B) = Or (formula (position formulas A)) (formula (position formulas B))
entry_of formulas (K says A) = Says (principal K) (formula (position formulas A))

abbrev pub table_of : List Proposition → List Entry
table_of formulas = map (entry_of formulas) formulas

-- "two parallel arrays of F words each, heads and seconds" (01)
abbrev pub heads_of : List Proposition → List ℕ
heads_of formulas = map head_of (table_of formulas)

abbrev pub seconds_of : List Proposition → List ℕ
seconds_of formulas = map second_of (table_of formulas)

-- What its words are: those of this table, which spells the formulas in their order, and passes 4 and 5.
pub record TableIs (formulas : List Proposition) : Type 0 where
  pub taken_apart : entries (heads_of formulas) (seconds_of formulas) ≡ table_of formulas
  pub spells : spelled (table_of formulas) ≡ formulas
  pub ordered : Ordered (table_of formulas)
  pub none_repeated : NoneRepeated (heads_of formulas) (seconds_of formulas)

abbrev pub TablesAre : Type 0
TablesAre =
    (formulas : List Proposition) → TableOrder formulas → length formulas ≤ most_formulas
    → ((B : Proposition) → B ∈ formulas → NumberFits B) → TableIs formulas
