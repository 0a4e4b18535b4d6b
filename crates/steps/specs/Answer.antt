-- What the check of proofs answers, for every table, good or bad, every list of statements, all goals' numbers and all
-- step words: the machine's verdict (tests 9 to 14) on the truth of each goal from the statements. Closed has the
-- number of words used; words after them are not looked at, so that a caller can hand over a tail. Proved in
-- proofs/Answer.antt. Assumes nothing.
use Rattle.std.specs.Prelude.{ℕ, ◌≤◌, Bool, ◌≡◌, ◌↔◌, List, [], ◌∷◌, length, take}
use Rattle.basics.specs.Membership.{◌∈◌}
use Rattle.basics.specs.Tested.{Passed}
use Rattle.basics.specs.Limits.{most_depth}
use Rattle.logic.specs.Principals.{Relation}
use Rattle.table.specs.Tests.{entries, table_tests}
use Rattle.steps.specs.Verdict.{WalkVerdict, Closed}
use Rattle.steps.specs.Obligation.{obligation, obligations}
use Rattle.steps.specs.Run.{walk}
use Rattle.steps.specs.Carried.{Carried, InTable}

module _ (speaks : ℕ → ℕ → Bool) where
  -- one goal
  abbrev pub proof_answer : List ℕ → List ℕ → List ℕ → ℕ → List ℕ → WalkVerdict
  proof_answer heads seconds statements goal steps =
      walk speaks most_depth (entries heads seconds) steps 0 (obligation statements goal ∷ [])

  -- many goals from one list: "each proof begins at the word after the last one" (01)
  abbrev pub proofs_answer : List ℕ → List ℕ → List ℕ → List ℕ → List ℕ → WalkVerdict
  proofs_answer heads seconds statements goals steps =
      walk speaks most_depth (entries heads seconds) steps 0 (obligations statements goals)

module _ (speaks : ℕ → ℕ → Bool) (R : Relation) where
  -- Over a table that passes 2, 4 and 5, with statements and goals below F (6 and 7), closed with q says that the first
  -- q words are those of derivations of the goals from the statements, one after another in order, no step of them
  -- deeper than 512.
  abbrev pub ClosedAreDerivations : Type 0
  ClosedAreDerivations =
      (heads seconds statements goals steps : List ℕ) (q : ℕ) → table_tests heads seconds ≡ Passed
      → ((goal : ℕ) → goal ∈ goals → InTable (entries heads seconds) (obligation statements goal))
      → proofs_answer speaks heads seconds statements goals steps ≡ Closed q
      ↔ (q ≤ length steps)
      × Carried R most_depth (entries heads seconds) (obligations statements goals) (take q steps)

  -- The same of one goal: the words are those of a derivation of it.
  abbrev pub ClosedIsDerivation : Type 0
  ClosedIsDerivation =
      (heads seconds statements : List ℕ) (goal : ℕ) (steps : List ℕ) (q : ℕ)
      → table_tests heads seconds ≡ Passed → InTable (entries heads seconds) (obligation statements goal)
      → proof_answer speaks heads seconds statements goal steps ≡ Closed q
      ↔ (q ≤ length steps)
      × Carried R most_depth (entries heads seconds) (obligation statements goal ∷ []) (take q steps)
