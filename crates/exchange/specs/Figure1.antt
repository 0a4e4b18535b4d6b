-- The exchange of document 01 itself: "the same K" for code 11, derivations in Figure 1, and equal force as demand 3
-- means it. Contracts, code and samples cite it from here; what is stated for every relation cites the general files.
-- Proved in proofs/Figure1.antt. Assumes nothing.
use Rattle.std.specs.Prelude.{ℕ, List}
use Rattle.basics.specs.Refusals.{Test}
use Rattle.logic.specs.Figure1.{Same}
use Rattle.table.specs.declared.entry.Entry.{Entry}
use Rattle.steps.specs.Verdict.{WalkVerdict}
use Rattle.steps.specs.Figure1.{same}
use Rattle.exchange.specs.Verdict.{ExchangeVerdict}
use Rattle.exchange.specs.Answer as Every
use Rattle.exchange.specs.Proofs as AnyProofs
use Rattle.exchange.specs.Reasons as AnyReasons
use Rattle.exchange.specs.Force as AnyForce
use Rattle.exchange.specs.Promises as Promises

abbrev pub step_verdict : List ℕ → WalkVerdict
step_verdict file = Every.step_verdict same file

abbrev pub tests : List ℕ → List Test
tests file = Every.tests same file

abbrev pub exchange_answer : List ℕ → ExchangeVerdict
exchange_answer file = Every.exchange_answer same file

abbrev pub CarriesAll : List ℕ → Type 0
CarriesAll file = AnyProofs.CarriesAll Same file

abbrev pub Reason : List ℕ → ℕ → ℕ → Type 0
Reason file number p = AnyReasons.Reason same file number p

-- ---- demand 3

abbrev pub EqualInForce : List Entry → List ℕ → List ℕ → Type 0
EqualInForce es first second = AnyForce.EqualInForce Same es first second

abbrev pub ForceByStatements : Type 0
ForceByStatements = AnyForce.ForceByStatements Same

abbrev pub GoalKept : Type 0
GoalKept = AnyForce.GoalKept Same

abbrev pub EqualExactly : Type 0
EqualExactly = Promises.EqualExactly same Same

abbrev pub EqualOnlyInForce : Type 0
EqualOnlyInForce = Promises.EqualOnlyInForce same Same

abbrev pub RefusedExactly : Type 0
RefusedExactly = Promises.RefusedExactly same

abbrev pub NeverSixOrEight : Type 0
NeverSixOrEight = Promises.NeverSixOrEight same

abbrev pub KeepsExactly : Type 0
KeepsExactly = Promises.KeepsExactly same

abbrev pub EmptyListsEqual : Type 0
EmptyListsEqual = Promises.EmptyListsEqual same

abbrev pub ProvedAtEachPosition : Type 0
ProvedAtEachPosition = Promises.ProvedAtEachPosition same

abbrev pub AnswersSmall : Type 0
AnswersSmall = Promises.AnswersSmall same

abbrev pub LongerFile : Type 0
LongerFile = Promises.LongerFile same
