-- The proposition that an entry spells out. "A formula is a finite tree of the kinds above"; "each number stands for
-- the formula that its entry spells out" (01). Total, and no fuel: entries are read from the front, and each looks its
-- operands up in what is already made. A number with no entry and an ill-formed entry spell false, and so does an
-- operand that is not lower, where it is looked up; under test 4 there is none of these. Assumes nothing.
use Rattle.std.specs.Prelude.{ℕ, List, [], ◌∷◌, ◌++◌, map, get_or}
use Rattle.logic.specs.Proposition.{Proposition, atom, false, ◌implies◌, ◌and◌, ◌or◌, ◌says◌}
use Rattle.table.specs.declared.entry.Entry.{Entry}
use Rattle.table.specs.declared.entry.Entry.TheVariants.{Atom, False, Implies, And, Or, Says, IllFormed}

-- what a number spells where these propositions are made
abbrev pub among : List Proposition → ℕ → Proposition
among made n = get_or made n false

abbrev pub proposition : List Proposition → Entry → Proposition
proposition made (Atom a) = atom a.0
proposition made False = false
proposition made (Implies f g) = among made f.0 implies among made g.0
proposition made (And f g) = among made f.0 and among made g.0
proposition made (Or f g) = among made f.0 or among made g.0
proposition made (Says k f) = k.0 says among made f.0
proposition made IllFormed = false

unfoldable pub spelled_after : List Proposition → List Entry → List Proposition
spelled_after made [] = made
spelled_after made (e ∷ es) = spelled_after (made ++ (proposition made e ∷ [])) es

-- the propositions of a table, in the order of their numbers
unfoldable pub spelled : List Entry → List Proposition
spelled es = spelled_after [] es

-- the proposition of a number
abbrev pub spell : List Entry → ℕ → Proposition
spell es n = among (spelled es) n

-- a list of numbers spelled out
abbrev pub spell_all : List Entry → List ℕ → List Proposition
spell_all es ns = map (spell es) ns
