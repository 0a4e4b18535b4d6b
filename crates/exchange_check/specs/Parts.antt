-- What the parts of the check answer, over a file's arrays: 4, 5 and 7, 9 to 15, and both. With 1 to 3 they are
-- `exchange_answer`. Assumes nothing.
use Rattle.std.specs.Prelude.{ℕ, List, [], ◌∷◌, ◌++◌, length}
use Rattle.basics.specs.Refusals.{Test, test, first_refusal, unless_refused}
use Rattle.file.specs.Outside.{outside}
use Rattle.table.specs.Tests.{entries, entry_tests}
use Rattle.steps.specs.Obligation.{obligations}
use Rattle.steps.specs.Run.{walked}
use Rattle.steps.specs.Figure1.{run}
use Rattle.exchange.specs.Verdict.{ExchangeVerdict, Equal, Refused}

-- 4, 5 and 7, for a table of F entries and both lists, one after the other
abbrev pub array_tests : List ℕ → List ℕ → List ℕ → List Test
array_tests heads seconds lists = entry_tests heads seconds ++ (test 7 (outside (length heads) lists) ∷ [])

-- 9 to 15: the second list is to be proved from the first, then the first from the second
abbrev pub step_test : List ℕ → List ℕ → List ℕ → List ℕ → List ℕ → Test
step_test heads seconds first second steps = walked (run (entries heads seconds) steps (obligations first second ++ obligations second first))

-- 4 to 15, over arrays of a size that 2 allows
abbrev pub arrays_answer : List ℕ → List ℕ → List ℕ → List ℕ → List ℕ → List ℕ → ExchangeVerdict
arrays_answer heads seconds lists first second steps =
    unless_refused (first_refusal (array_tests heads seconds lists ++ (step_test heads seconds first second steps ∷ []))) Equal
