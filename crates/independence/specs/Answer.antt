-- What the test whether a principal can matter answers, for every file of any bytes and length and every principal's
-- number. "The test reads a record but not its steps, so 1 to 7 apply. Refused: 17, after 7, the principal's number is
-- above 4,095; place 0." (02, job 5) Assumes nothing.
use Rattle.std.specs.Prelude.{ℕ, Bool, List, [], ◌∷◌, ◌++◌, leb}
use Rattle.basics.specs.Place.{Place}
use Rattle.basics.specs.Choice.{pick}
use Rattle.basics.specs.Limits.{most_principals}
use Rattle.basics.specs.Refusals.{Test, test, at0, first_refusal, unless_refused}
use Rattle.record.specs.Answer.{tests_to7}
use Rattle.record.specs.Proof.{stated_by, goal_of}
use Rattle.independence.specs.Verdict.{IndependenceVerdict, Independent, NotIndependent, Refused}
use Rattle.independence.specs.Test.{is_independent}

-- "17 .. the principal's number is above 4,095; place 0": there are 4,096 principals, from 0 on
abbrev pub principal_outside : ℕ → Place
principal_outside K = at0 (leb most_principals K)

-- the record's own tests 1 to 7, and 17
abbrev pub tests : List ℕ → ℕ → List Test
tests file K = tests_to7 file ++ (test 17 (principal_outside K) ∷ [])

module _ (speaks : ℕ → ℕ → Bool) where
  -- of what the statements and the goal spell
  abbrev pub verdict : List ℕ → ℕ → IndependenceVerdict
  verdict file K = pick (is_independent speaks K (stated_by file) (goal_of file)) Independent NotIndependent

  unfoldable pub independence_answer : List ℕ → ℕ → IndependenceVerdict
  independence_answer file K = unless_refused (first_refusal (tests file K)) (verdict file K)
