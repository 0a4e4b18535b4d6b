-- What each refusal says of an exchange file, in the order and with the places of 01's list, "without 6 and 8". Assumes
-- nothing.
use Rattle.std.specs.Prelude.{ℕ, ◌≤◌, Bool, ◌≡◌, List, ◌++◌, length, get_or}
use Rattle.basics.specs.First.{IsFirst}
use Rattle.basics.specs.Limits.{most_depth}
use Rattle.file.specs.Reasons.{LayoutReason}
use Rattle.table.specs.Reasons.{EntryReason}
use Rattle.steps.specs.Stops.{Stop}
use Rattle.exchange.specs.Layout.{exchange_layout, formulas, heads, seconds, first_list, second_list, steps, table}
use Rattle.exchange.specs.Answer.{obligations_of}
use Rattle.exchange.specs.Proofs.{InRange}

-- A reason to refuse a file: its number, its place p, and what it says. `IsFirst Fault n p`: p is below n and has the
-- fault, and no place before it has it.
pub data Reason (speaks : ℕ → ℕ → Bool) (file : List ℕ) (number p : ℕ) : Type 0 where
  -- 1 to 3: too few bytes, a size outside its range, another length (file/specs/Reasons.antt)
  layout_broken : LayoutReason exchange_layout (InRange file) file number p → Reason speaks file number p
  -- 4 and 5: a wrong entry, a repeated entry (table/specs/Reasons.antt)
  table_broken : EntryReason (heads file) (seconds file) number p → Reason speaks file number p
  -- "7. A statement's number is F or more (place: the first such position)." "Places for 7 run through both lists"
  statement_outside :
      number ≡ 7
      → IsFirst (λ i. formulas file ≤ get_or (first_list file ++ second_list file) i 0)
      (length (first_list file ++ second_list file)) p
      → Reason speaks file number p
  -- 9 to 15, "through all step words": the walk stops at p (steps/specs/Stops.antt has what each says)
  stops : Stop speaks most_depth (table file) (steps file) (obligations_of file) number p → Reason speaks file number p
