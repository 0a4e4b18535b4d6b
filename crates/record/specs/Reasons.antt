-- What each refusal says of a file, in the checking order and with the places of 01's list. Assumes nothing.
use Rattle.std.specs.Prelude.{ℕ, ◌≤◌, ◌<◌, Bool, ◌≡◌, List, [], ◌∷◌, length, get_or}
use Rattle.basics.specs.First.{IsFirst}
use Rattle.basics.specs.Limits.{most_depth}
use Rattle.file.specs.Reasons.{LayoutReason}
use Rattle.table.specs.Reasons.{EntryReason}
use Rattle.steps.specs.Obligation.{obligation}
use Rattle.steps.specs.Stops.{Stop}
use Rattle.record.specs.Layout.{record_layout, formulas, goal, heads, seconds, statements, steps, table, signers}
use Rattle.record.specs.Proof.{InRange}

-- A reason to refuse a file, where a list of `room` words is lent: its number, its place p, and what it says. `IsFirst
-- Fault n p`: p is below n and has the fault, and no place before it has it.
pub data Reason (speaks : ℕ → ℕ → Bool) (file : List ℕ) (room number p : ℕ) : Type 0 where
  -- 1 to 3: too few bytes, a size outside its range, another length (file/specs/Reasons.antt)
  layout_broken : LayoutReason record_layout (InRange file) file number p → Reason speaks file room number p
  -- 4 and 5: a wrong entry, a repeated entry (table/specs/Reasons.antt)
  table_broken : EntryReason (heads file) (seconds file) number p → Reason speaks file room number p
  -- "6. The goal's number is F or more (place 0)."
  goal_outside : number ≡ 6 → p ≡ 0 → formulas file ≤ goal file → Reason speaks file room number p
  -- "7. A statement's number is F or more (place: the first such position)."
  statement_outside :
      number ≡ 7 → IsFirst (λ i. formulas file ≤ get_or (statements file) i 0) (length (statements file)) p
      → Reason speaks file room number p
  -- 9 to 14, which "run in this order at each step, steps in file order", and 15: the walk stops at p
  -- (steps/specs/Stops.antt has what each says). It stops at one place for one reason, so of these at most one applies.
  stops :
      Stop speaks most_depth (table file) (steps file) (obligation (statements file) (goal file) ∷ []) number p
      → Reason speaks file room number p
  -- "8. The lent list is shorter than the number of signers (place 0)." It "is tested after 15" (02, job 3).
  list_short : number ≡ 8 → p ≡ 0 → room < length (signers file) → Reason speaks file room number p
