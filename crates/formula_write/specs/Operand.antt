-- The text of a compound entry in parts: what stands before its word, the word, and what stands after it. Another entry
-- has none of these. Proved in proofs/Operands.antt. Assumes nothing.
use Rattle.std.specs.Prelude.{ℕ, List, [], ◌++◌, take}
use Rattle.text.specs.Ascii.{ascii}
use Rattle.table.specs.declared.entry.Entry.{Entry}
use Rattle.table.specs.declared.entry.Entry.TheVariants.{Atom, False, Implies, And, Or, Says, IllFormed}
use Rattle.table.specs.Spelled.{among, spelled}
use Rattle.sentences.specs.Formula.{principal_text, proposition_text}

-- operand f of entry n: looked up among what the entries before it spell
abbrev pub operand_text : List Entry → ℕ → ℕ → List ℕ
operand_text es n f = proposition_text (among (spelled (take n es)) f)

abbrev pub left_text : List Entry → ℕ → Entry → List ℕ
left_text es n (Implies a b) = operand_text es n a.0
left_text es n (And a b) = operand_text es n a.0
left_text es n (Or a b) = operand_text es n a.0
left_text es n (Says k b) = principal_text k.0
left_text es n (Atom a) = []
left_text es n False = []
left_text es n IllFormed = []

abbrev pub word_text : Entry → List ℕ
word_text (Implies a b) = ascii " implies "
word_text (And a b) = ascii " and "
word_text (Or a b) = ascii " or "
word_text (Says k b) = ascii " says "
word_text (Atom a) = []
word_text False = []
word_text IllFormed = []

abbrev pub right_text : List Entry → ℕ → Entry → List ℕ
right_text es n (Implies a b) = operand_text es n b.0
right_text es n (And a b) = operand_text es n b.0
right_text es n (Or a b) = operand_text es n b.0
right_text es n (Says k b) = operand_text es n b.0
right_text es n (Atom a) = []
right_text es n False = []
right_text es n IllFormed = []

-- as `bracketed` of the crate sentences, where the word is bytes
abbrev pub in_brackets : List ℕ → List ℕ → List ℕ → List ℕ
in_brackets left word right = ascii "(" ++ (left ++ (word ++ (right ++ ascii ")")))
