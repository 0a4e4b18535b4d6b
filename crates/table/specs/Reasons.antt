-- What a refusal by 4 or 5 says of a table: its number, its place p, and the reason. `IsFirst Fault n p`: p is below n
-- and has the fault, and no place before it has it. Proved in proofs/Reasons.antt. Assumes nothing.
use Rattle.std.specs.Prelude.{ℕ, ◌<◌, ◌≤◌, true, false, ◌≡◌, ◌↔◌, List, length, get_or}
use Rattle.basics.specs.First.{first, found, IsFirst}
use Rattle.basics.specs.Word.{upper, lower}
use Rattle.table.specs.Entry.{entry}
use Rattle.table.specs.Tests.{entries, well_formed_at, same}

-- "4. An entry has kind 6 or more or a wrong operand": entry i, by its head and its second. The upper number of a head
-- is the kind, the lower the first operand.
pub data WrongEntry (i head second : ℕ) : Type 0 where
  -- "kind 6 or more"
  no_kind : 6 ≤ upper head → WrongEntry i head second
  -- "0 atom (first = atom number, second 0)"
  atom_second : upper head ≡ 0 → ¬ (second ≡ 0) → WrongEntry i head second
  -- "1 false (both 0)"
  false_first : upper head ≡ 1 → ¬ (lower head ≡ 0) → WrongEntry i head second
  false_second : upper head ≡ 1 → ¬ (second ≡ 0) → WrongEntry i head second
  -- "An operand that is a formula has a lower number than the entry that uses it": the first of "2 implies, 3 and, 4
  -- or", and the second of these and of "5 says"
  first_not_lower : 2 ≤ upper head → upper head ≤ 4 → i ≤ lower head → WrongEntry i head second
  second_not_lower : 2 ≤ upper head → upper head ≤ 5 → i ≤ second → WrongEntry i head second

-- That is what test 4 finds of an entry.
abbrev pub WrongExactly : Type 0
WrongExactly = (i head second : ℕ) → well_formed_at i (entry head second) ≡ false ↔ WrongEntry i head second

-- "5. An entry has the head and second of an earlier one": entry p
pub record Repeats (heads seconds : List ℕ) (p : ℕ) : Type 0 where
  pub earlier : ℕ
  pub is_earlier : earlier < p
  pub same_head : get_or heads p 0 ≡ get_or heads earlier 0
  pub same_second : get_or seconds p 0 ≡ get_or seconds earlier 0

-- That is what test 5 finds of an entry.
abbrev pub RepeatsExactly : Type 0
RepeatsExactly =
    (heads seconds : List ℕ) (p : ℕ) → found (first (same heads seconds p) p) ≡ true ↔ Repeats heads seconds p

pub data EntryReason (heads seconds : List ℕ) (number p : ℕ) : Type 0 where
  -- "4. .. (place: the first such entry)."
  wrong_entry :
      number ≡ 4 → IsFirst (λ i. WrongEntry i (get_or heads i 0) (get_or seconds i 0)) (length (entries heads seconds)) p
      → EntryReason heads seconds number p
  -- "5. .. (place: the first such later entry; ..)."
  repeated_entry : number ≡ 5 → IsFirst (Repeats heads seconds) (length heads) p → EntryReason heads seconds number p
