-- What the test answers over the arrays of a file, without its steps: 2 and 4 to 7, 17, and the verdict. Assumes
-- nothing.
use Rattle.std.specs.Prelude.{ℕ, Bool, ◌≡◌, List, [], ◌∷◌, ◌++◌}
use Rattle.basics.specs.Choice.{pick}
use Rattle.basics.specs.Refusals.{Test, test, first_refusal, unless_refused}
use Rattle.table.specs.Tests.{entries}
use Rattle.table.specs.Spelled.{spell, spell_all}
use Rattle.record.specs.Layout.{heads, seconds, statements, goal}
use Rattle.record.specs.Proof.{Sized}
use Rattle.record_check.specs.Parts.{part_tests}
use Rattle.independence.specs.Verdict.{IndependenceVerdict, Independent, NotIndependent, Refused}
use Rattle.independence.specs.Answer.{principal_outside}
use Rattle.independence.specs.Figure1.{is_independent, independence_answer}

-- "17, after 7"
abbrev pub arrays_tests : List ℕ → List ℕ → List ℕ → ℕ → ℕ → List Test
arrays_tests heads seconds statements goal K =
    part_tests heads seconds statements goal ++ (test 17 (principal_outside K) ∷ [])

-- the test, of what the statements and the goal spell
abbrev pub arrays_independent : List ℕ → List ℕ → List ℕ → ℕ → ℕ → Bool
arrays_independent heads seconds statements goal K =
    is_independent K (spell_all (entries heads seconds) statements) (spell (entries heads seconds) goal)

abbrev pub arrays_verdict : List ℕ → List ℕ → List ℕ → ℕ → ℕ → IndependenceVerdict
arrays_verdict heads seconds statements goal K =
    pick (arrays_independent heads seconds statements goal K) Independent NotIndependent

abbrev pub arrays_answer : List ℕ → List ℕ → List ℕ → ℕ → ℕ → IndependenceVerdict
arrays_answer heads seconds statements goal K =
    unless_refused (first_refusal (arrays_tests heads seconds statements goal K))
    (arrays_verdict heads seconds statements goal K)

-- Over the arrays of a file that 1 to 3 let pass this is the file's answer. Proved in proofs/Whole.antt.
abbrev pub PartsOfFile : Type 0
PartsOfFile =
    (file : List ℕ) → Sized file → (K : ℕ)
    → arrays_answer (heads file) (seconds file) (statements file) (goal file) K ≡ independence_answer file K
