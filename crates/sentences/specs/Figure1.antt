-- The text of a record of document 01: "the same K" for code 11, derivations in Figure 1. Contracts, code and samples
-- cite it from here; what is stated for every relation cites the general files. Proved in proofs/Figure1.antt. Assumes
-- nothing.
use Rattle.std.specs.Prelude.{ℕ, List}
use Rattle.logic.specs.Figure1.{Same}
use Rattle.steps.specs.Trace.{Line}
use Rattle.steps.specs.Figure1.{same}
use Rattle.record.specs.Verdict.{RecordVerdict}
use Rattle.sentences.specs.Verdict.{SentencesVerdict}
use Rattle.sentences.specs.Answer as Every
use Rattle.sentences.specs.Printed as AnyPrinted
use Rattle.sentences.specs.Promises as Promises

abbrev pub record_lines : List ℕ → List Line
record_lines file = Every.record_lines same file

abbrev pub record_text : List ℕ → List ℕ
record_text file = Every.record_text same file

abbrev pub sentences_answer : List ℕ → ℕ → ℕ → SentencesVerdict
sentences_answer file room bytes = Every.sentences_answer same file room bytes

abbrev pub text_after : List ℕ → SentencesVerdict → List ℕ → List ℕ
text_after file answer before = Every.text_after same file answer before

abbrev pub after_record : List ℕ → ℕ → RecordVerdict → SentencesVerdict
after_record file bytes verdict = Every.after_record same file bytes verdict

abbrev pub printed_for : List ℕ → SentencesVerdict → List ℕ
printed_for file answer = AnyPrinted.printed_for same file answer

abbrev pub printed_text : List ℕ → ℕ → List ℕ
printed_text file bytes = AnyPrinted.printed_text same file bytes

-- ---- job 2

abbrev pub AnswerAfterRecord : Type 0
AnswerAfterRecord = Every.AnswerAfterRecord same

abbrev pub TextOfDerivation : Type 0
TextOfDerivation = Promises.TextOfDerivation same Same

abbrev pub LinePerStep : Type 0
LinePerStep = Promises.LinePerStep same Same

abbrev pub SameLines : Type 0
SameLines = Promises.SameLines Same

abbrev pub SameText : Type 0
SameText = Promises.SameText Same

abbrev pub WrittenExactly : Type 0
WrittenExactly = Promises.WrittenExactly same Same

abbrev pub RefusedExactly : Type 0
RefusedExactly = Promises.RefusedExactly same Same

abbrev pub AnswersSmall : Type 0
AnswersSmall = Promises.AnswersSmall same

abbrev pub LongerFile : Type 0
LongerFile = Promises.LongerFile same

abbrev pub WholeText : Type 0
WholeText = AnyPrinted.WholeText same
