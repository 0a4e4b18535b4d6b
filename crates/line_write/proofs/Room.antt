-- The laws behind the functions that measure: the room that a text leaves. Assumes nothing.
use Prim.Native.Nat.{ℕ, ◌+◌, ◌-◌, ◌≤◌, ◌<◌}
use native.Mathlib.Omega.{arith}
use mathlib.Core.Path.{◌≡◌, sym, ◌∙◌}
use mathlib.Core.Logic.{⊎_elim}
use mathlib.Core.List.{List, ◌++◌}
use lib.Dec.{ltb, leb}
use lib.ListN.{length, take, length-append}
use borrow.Author.Tests.{lt-ltb, le-ltb, le-leb, lt-leb}
use Rattle.record.specs.Verdict.{Granted}
use Rattle.text.specs.Ascii.{ascii}
use Rattle.text.specs.Decimal.{decimal}
use Rattle.text.proofs.Split.{split}
use Rattle.line.specs.RefusedLine.{refused_line}
use Rattle.line.specs.RecordLine.{listed, record_line}

-- The room left after two texts, one after the other.
pub left_then : (room : ℕ) (xs ys : List ℕ) {left less : ℕ} → left ≡ room - length xs → less ≡ left - length ys → less ≡ room - length (xs ++ ys)
left_then room xs ys e f = omega (arith, length-append xs ys)

-- A text has room with a line feed after it exactly when it leaves some.
pub is_room : (room : ℕ) (text : List ℕ) {left : ℕ} → left ≡ room - length text → ltb 0 left ≡ leb (length (text ++ ascii "\n")) room
unfolding ascii
is_room room text {left} e = ⊎_elim short fits (split room (length line))
  where
    line : List ℕ
    line = text ++ ascii "\n"

    one_more : length line ≡ length text + 1
    one_more = length-append text (ascii "\n")

    short : room < length line → ltb 0 left ≡ leb (length line) room
    short l = le-ltb 0 left (omega (arith, one_more)) ∙ sym (lt-leb (length line) room l)

    fits : length line ≤ room → ltb 0 left ≡ leb (length line) room
    fits l = lt-ltb 0 left (omega (arith, one_more)) ∙ sym (le-leb (length line) room l)

-- What a grant's line leaves before its line feed,
pub granted_room : (room count : ℕ) (signers : List ℕ) {a b left : ℕ}
    → a ≡ room - 8 → b ≡ a - length (decimal count) → left ≡ b - length (listed (take count signers))
    → ltb 0 left ≡ leb (length (record_line (Granted count) signers)) room
unfolding ascii record_line
granted_room room count signers ea eb el =
    let word : List ℕ = ascii "granted " in
    let counted = left_then room word (decimal count) ea eb in
    let named = left_then room (word ++ decimal count) (listed (take count signers)) counted el in
    is_room room (word ++ decimal count ++ listed (take count signers)) named

-- and what a refusal's leaves.
pub refused_room : (room number place : ℕ) {a b c left : ℕ}
    → a ≡ room - 8 → b ≡ a - length (decimal number) → c ≡ b - 7 → left ≡ c - length (decimal place)
    → ltb 0 left ≡ leb (length (refused_line number place)) room
unfolding ascii refused_line
refused_room room number place ea eb ec el =
    let word : List ℕ = ascii "refused " in
    let numbered = left_then room word (decimal number) ea eb in
    let middle = left_then room (word ++ decimal number) (ascii " place ") numbered ec in
    let placed = left_then room (word ++ decimal number ++ ascii " place ") (decimal place) middle el in
    is_room room (word ++ decimal number ++ ascii " place " ++ decimal place) placed
