-- The test whether a principal can matter, of document 02 before its job 14: "the same K", and a proof that is "a
-- derivation in Figure 1" (demand 2). Contracts and samples cite it from here; what is stated for every relation cites
-- the general files. Proved in proofs/Figure1.antt. Assumes nothing.
use Rattle.std.specs.Prelude.{ℕ, Bool, List}
use Rattle.logic.specs.Proposition.{Proposition}
use Rattle.logic.specs.Figure1.{Same}
use Rattle.steps.specs.Figure1.{same}
use Rattle.independence.specs.Verdict.{IndependenceVerdict}
use Rattle.independence.specs.Test as AnyTest
use Rattle.independence.specs.Answer as Every
use Rattle.independence.specs.SameProofs as AnyProofs
use Rattle.independence.specs.Promises as Promises

abbrev pub is_independent : ℕ → List Proposition → Proposition → Bool
is_independent K Γ C = AnyTest.is_independent same K Γ C

abbrev pub independence_answer : List ℕ → ℕ → IndependenceVerdict
independence_answer file K = Every.independence_answer same file K

-- ---- job 5

abbrev pub IndependentExactly : Type 0
IndependentExactly = Promises.IndependentExactly same Same

abbrev pub NotIndependentExactly : Type 0
NotIndependentExactly = Promises.NotIndependentExactly same Same

abbrev pub RefusedExactly : Type 0
RefusedExactly = Promises.RefusedExactly same

abbrev pub StepsUnread : Type 0
StepsUnread = Promises.StepsUnread same

abbrev pub AnswersSmall : Type 0
AnswersSmall = Promises.AnswersSmall same

abbrev pub LongerFile : Type 0
LongerFile = Promises.LongerFile same

abbrev pub SameProofs : Type 0
SameProofs = AnyProofs.SameProofs Same

abbrev pub SameWords : Type 0
SameWords = Promises.SameWords same Same

abbrev pub NeverSigns : Type 0
NeverSigns = Promises.NeverSigns same
