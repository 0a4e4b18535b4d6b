-- Lengths that stop growing. A formula's text can have 2 to the 4,000 bytes. No slice has as many as `too_long`, so no
-- caller can lend enough for a text that long, and its true length changes no answer. Proved in proofs/Lengths.antt.
-- Assumes nothing.
use Rattle.std.specs.Prelude.{ℕ, ◌<◌, min, ◌≡◌, List, map, length, take, ltb}
use Rattle.logic.specs.Proposition.{Proposition}
use Rattle.table.specs.declared.entry.Entry.{Entry}
use Rattle.table.specs.Spelled.{spelled}
use Rattle.sentences.specs.Formula.{proposition_text}

-- 2 to the 63
abbrev pub too_long : ℕ
too_long = 9223372036854775808

abbrev pub capped : ℕ → ℕ
capped n = min n too_long

-- of a proposition's text
unfoldable pub length_of : Proposition → ℕ
length_of A = capped (length (proposition_text A))

-- of those of a table's propositions, in the order of their numbers
abbrev pub lengths_of : List Entry → List ℕ
lengths_of es = map length_of (spelled es)

-- what these words hold from their start on, as `measure_formulas` leaves it where there is room for all
abbrev pub Holds : List Entry → List ℕ → Type 0
Holds es ls = take (length es) ls ≡ lengths_of es

-- A room below `too_long` is below the true length exactly when it is below the capped one.
abbrev pub CappedBelow : Type 0
CappedBelow = (room n : ℕ) → room < too_long → ltb room (capped n) ≡ ltb room n
