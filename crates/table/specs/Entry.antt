-- An entry from its head and its second: in the definitions the one place where they are taken apart, as `take_apart`
-- of src/entry.rt does it. The types, Formula, Principal, Atom and Entry, are the code's own. (Test 4 in code asks the
-- numbers themselves, and builds none of these.) Assumes nothing.
--
-- "A head is kind × 4,096 + first operand. Kinds: 0 atom (first = atom number, second 0); 1 false (both 0); 2 implies,
-- 3 and, 4 or (two formula numbers); 5 says (first = principal number, second = formula number)." (01)
use Rattle.std.specs.Prelude.{ℕ, List, [], ◌∷◌, get_or, eqb}
use Rattle.basics.specs.Choice.{pick, both}
use Rattle.basics.specs.Word.{word, upper, lower}
use Rattle.table.specs.declared.entry.Atom as A
use Rattle.table.specs.declared.entry.Principal.{Principal}
use Rattle.table.specs.declared.entry.Formula.{Formula}
use Rattle.table.specs.declared.entry.Entry.{Entry}
use Rattle.table.specs.declared.entry.Entry.TheVariants.{Atom, False, Implies, And, Or, Says, IllFormed}

-- the formula, the principal, the atom of a number
abbrev pub formula : ℕ → Formula
formula n = record { 0 = n }

abbrev pub principal : ℕ → Principal
principal k = record { 0 = k }

abbrev pub atom : ℕ → A.Atom
atom a = record { 0 = a }

-- what a first operand and a second are in each kind, in 01's order
abbrev pub kinds : ℕ → ℕ → List Entry
kinds one two =
    pick (eqb two 0) (Atom (atom one)) IllFormed
    ∷ pick (both (eqb one 0) (eqb two 0)) False IllFormed
    ∷ Implies (formula one) (formula two)
    ∷ And (formula one) (formula two)
    ∷ Or (formula one) (formula two)
    ∷ Says (principal one) (formula two)
    ∷ []

-- a kind of 6 or more is ill-formed, and so is a wrong operand that shows without the entry's number
unfoldable pub entry : ℕ → ℕ → Entry
entry head second = get_or (kinds (lower head) second) (upper head) IllFormed

-- The same in 01's own direction: an entry's head, kind × 4,096 + first operand, and its second. What is ill-formed has
-- neither; 0 stands for them.
abbrev pub head_of : Entry → ℕ
head_of (Atom a) = word 0 a.0
head_of False = word 1 0
head_of (Implies f g) = word 2 f.0
head_of (And f g) = word 3 f.0
head_of (Or f g) = word 4 f.0
head_of (Says k f) = word 5 k.0
head_of IllFormed = 0

abbrev pub second_of : Entry → ℕ
second_of (Atom a) = 0
second_of False = 0
second_of (Implies f g) = g.0
second_of (And f g) = g.0
second_of (Or f g) = g.0
second_of (Says k f) = f.0
second_of IllFormed = 0
