-- The record of document 01 itself: "the same K" for code 11, and a proof that is "a derivation in Figure 1" (demand
-- 2). Contracts, code and samples cite it from here; what is stated for every relation cites the general files. Proved
-- in proofs/Figure1.antt. Assumes nothing.
use Rattle.std.specs.Prelude.{ℕ, List}
use Rattle.basics.specs.Refusals.{Test}
use Rattle.logic.specs.Figure1.{Same}
use Rattle.steps.specs.Verdict.{WalkVerdict}
use Rattle.steps.specs.Figure1.{same}
use Rattle.record.specs.Verdict.{RecordVerdict}
use Rattle.record.specs.Answer as Every
use Rattle.record.specs.Proof as AnyProof
use Rattle.record.specs.Carries as AnyCarries
use Rattle.record.specs.Reasons as AnyReasons
use Rattle.record.specs.Promises as Promises
use Rattle.record.specs.Papers as AnyPapers

abbrev pub step_verdict : List ℕ → WalkVerdict
step_verdict file = Every.step_verdict same file

abbrev pub tests : List ℕ → ℕ → List Test
tests file room = Every.tests same file room

abbrev pub record_answer : List ℕ → ℕ → RecordVerdict
record_answer file room = Every.record_answer same file room

abbrev pub IsProof : List ℕ → Type 0
IsProof file = AnyProof.IsProof Same file

abbrev pub Reason : List ℕ → ℕ → ℕ → ℕ → Type 0
Reason file room number p = AnyReasons.Reason same file room number p

abbrev pub GrantSays : List ℕ → ℕ → ℕ → Type 0
GrantSays file room count = Promises.GrantSays Same file room count

-- ---- demands 1 and 2

abbrev pub GrantedExactly : Type 0
GrantedExactly = Promises.GrantedExactly same Same

abbrev pub RefusedExactly : Type 0
RefusedExactly = Promises.RefusedExactly same

abbrev pub EightExactly : Type 0
EightExactly = Promises.EightExactly same Same

abbrev pub KeepsExactly : Type 0
KeepsExactly = Promises.KeepsExactly same

abbrev pub AnswersSmall : Type 0
AnswersSmall = Promises.AnswersSmall same

abbrev pub LongerFile : Type 0
LongerFile = Promises.LongerFile same

abbrev pub StatementsAreASet : Type 0
StatementsAreASet = Promises.StatementsAreASet same

abbrev pub StatedTwice : Type 0
StatedTwice = Promises.StatedTwice same

-- ---- who carried (02, job 3)

abbrev pub SignersCarry : Type 0
SignersCarry = AnyCarries.SignersCarry Same

-- ---- papers alone (02, job 6)

abbrev pub PapersAlone : Type 0
PapersAlone = AnyPapers.PapersAlone same Same
