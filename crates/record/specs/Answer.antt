-- What the check of a record answers, for every file of any bytes and length and every length of the lent list:
-- "Refused, in checking order" (01), test by test. `speaks` compares principals, for code 11: 01 has "the same K"
-- (Figure1.antt). Assumes nothing.
use Rattle.std.specs.Prelude.{ℕ, Bool, List, [], ◌∷◌, ◌++◌, length, ltb, leb}
use Rattle.basics.specs.Place.{Place}
use Rattle.basics.specs.Limits.{most_depth}
use Rattle.basics.specs.Refusals.{Test, test, at0, first_refusal, unless_refused}
use Rattle.file.specs.Layout.{layout_tests}
use Rattle.file.specs.Outside.{outside}
use Rattle.table.specs.Tests.{entry_tests}
use Rattle.steps.specs.Verdict.{WalkVerdict}
use Rattle.steps.specs.Obligation.{obligation}
use Rattle.steps.specs.Run.{run, walked}
use Rattle.record.specs.Verdict.{RecordVerdict, Granted, Refused}
use Rattle.record.specs.Layout.{record_layout, formulas, goal, heads, seconds, statements, steps, table, signers}

-- "6. The goal's number is F or more (place 0)."
abbrev pub goal_outside : List ℕ → Place
goal_outside file = at0 (leb (formulas file) (goal file))

-- "7. A statement's number is F or more (place: the first such position)."
abbrev pub statement_outside : List ℕ → Place
statement_outside file = outside (formulas file) (statements file)

-- "8. The lent list is shorter than the number of signers (place 0)."
abbrev pub list_short : List ℕ → ℕ → Place
list_short file room = at0 (ltb room (length (signers file)))

-- 1 to 7, of which none looks at the steps or the lent list: 1 to 3 by the layout (file/specs/Layout.antt), 4 and 5 of
-- the table (table/specs/Tests.antt)
abbrev pub tests_to7 : List ℕ → List Test
tests_to7 file =
    layout_tests record_layout file
    ++ (entry_tests (heads file) (seconds file)
    ++ (test 6 (goal_outside file) ∷ test 7 (statement_outside file) ∷ []))

module _ (speaks : ℕ → ℕ → Bool) where
  -- 9 to 15: the machine's verdict on the goal's truth from the statements, through all step words
  abbrev pub step_verdict : List ℕ → WalkVerdict
  step_verdict file = run speaks most_depth (table file) (steps file) (obligation (statements file) (goal file) ∷ [])

  -- all, in order: "Refusal 8 .. is tested after 15" (02, job 3)
  abbrev pub tests : List ℕ → ℕ → List Test
  tests file room = tests_to7 file ++ (walked (step_verdict file) ∷ test 8 (list_short file room) ∷ [])

  -- "Granted gives their count", the signers'.
  unfoldable pub record_answer : List ℕ → ℕ → RecordVerdict
  record_answer file room = unless_refused (first_refusal (tests file room)) (Granted (length (signers file)))
