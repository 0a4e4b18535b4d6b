-- What the parts of the check answer, over arrays of any length: 2 and 4 to 7, 9 to 15, 8, and all of them in order.
-- Assumes nothing.
use Rattle.std.specs.Prelude.{ℕ, ◌≤◌, Bool, true, not, ◌≡◌, ◌↔◌, List, [], ◌∷◌, ◌++◌, length, ltb, leb, Err}
use Rattle.basics.specs.Choice.{both}
use Rattle.basics.specs.Limits.{most_formulas, most_statements}
use Rattle.basics.specs.Refusals.{Test, test, at0, first_refusal, unless_refused}
use Rattle.basics.specs.Written.{written}
use Rattle.file.specs.Outside.{outside}
use Rattle.table.specs.Tests.{entries, sized, entry_tests}
use Rattle.steps.specs.Obligation.{obligation}
use Rattle.steps.specs.Run.{walked}
use Rattle.steps.specs.Figure1.{run}
use Rattle.signers_write.specs.Arrays.{arrays_signers}
use Rattle.record.specs.Verdict.{RecordVerdict, Granted, Refused}
use Rattle.record.specs.Layout.{goal, heads, seconds, statements, steps}
use Rattle.record.specs.Figure1.{record_answer}
use Rattle.record.specs.Proof.{Sized}

-- "2. F, S or N is outside its range (place 0)." (01) This is asked of F and S. "A table lent as two arrays of unlike
-- length meets 2."
abbrev pub sizes_fit : List ℕ → List ℕ → List ℕ → Bool
sizes_fit heads seconds statements = both (sized heads seconds) (leb (length statements) most_statements)

-- "F formulas (1 to 4,096), S statements (0 to 256)"
pub record SizesFit (heads seconds statements : List ℕ) : Type 0 where
  pub alike : length heads ≡ length seconds
  pub some_formulas : 1 ≤ length heads
  pub few_formulas : length heads ≤ most_formulas
  pub few_statements : length statements ≤ most_statements

-- This is what 2 asks. Proved in proofs/PartTests.antt.
abbrev pub SizesFitExactly : Type 0
SizesFitExactly =
    (heads seconds statements : List ℕ)
    → sizes_fit heads seconds statements ≡ true ↔ SizesFit heads seconds statements

-- 2 and 4 to 7. "6. The goal's number is F or more (place 0)." "7. A statement's number is F or more (place: the first
-- such position)."
abbrev pub part_tests : List ℕ → List ℕ → List ℕ → ℕ → List Test
part_tests heads seconds statements goal =
    test 2 (at0 (not (sizes_fit heads seconds statements)))
    ∷ (entry_tests heads seconds
    ++ (test 6 (at0 (leb (length heads) goal))
    ∷ test 7 (outside (length heads) statements)
    ∷ []))

-- 9 to 15: the goal is to be proved from the statements
abbrev pub step_test : List ℕ → List ℕ → List ℕ → ℕ → List ℕ → Test
step_test heads seconds statements goal steps =
    walked (run (entries heads seconds) steps (obligation statements goal ∷ []))

-- "8. The lent list is shorter than the number of signers (place 0)."
abbrev pub room_test : List ℕ → List ℕ → List ℕ → List ℕ → ℕ → Test
room_test heads seconds statements steps room =
    test 8 (at0 (ltb room (length (arrays_signers heads seconds statements steps))))

-- all of them, in order: "Refusal 8 .. is tested after 15" (02, job 3)
abbrev pub content_tests : List ℕ → List ℕ → List ℕ → ℕ → List ℕ → ℕ → List Test
content_tests heads seconds statements goal steps room =
    part_tests heads seconds statements goal
    ++ (step_test heads seconds statements goal steps ∷ room_test heads seconds statements steps room ∷ [])

-- where no test refuses: granted, with the number of signers
abbrev pub granted : List ℕ → List ℕ → List ℕ → List ℕ → RecordVerdict
granted heads seconds statements steps = Granted (length (arrays_signers heads seconds statements steps))

-- 2 and 4 to 15, and 8
abbrev pub arrays_answer : List ℕ → List ℕ → List ℕ → ℕ → List ℕ → ℕ → RecordVerdict
arrays_answer heads seconds statements goal steps room =
    unless_refused (first_refusal (content_tests heads seconds statements goal steps room))
    (granted heads seconds statements steps)

-- Over the arrays of a file that 1 to 3 let pass these are the record's own tests. Proved in proofs/Whole.antt.
abbrev pub PartsOfRecord : Type 0
PartsOfRecord =
    (file : List ℕ) → Sized file → (room : ℕ)
    → arrays_answer (heads file) (seconds file) (statements file) (goal file) (steps file) room ≡ record_answer file room

-- what is then in the lent list
abbrev pub list_written : RecordVerdict → List ℕ → List ℕ → List ℕ → List ℕ → List ℕ → List ℕ
list_written (Granted count) heads seconds statements steps before =
    written before (arrays_signers heads seconds statements steps)
list_written (Err refusal) heads seconds statements steps before = before
