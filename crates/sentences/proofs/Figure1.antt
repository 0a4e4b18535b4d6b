-- The promises for Figure 1 (specs/Figure1.antt): those for every test on principals, at "the same K". Assumes nothing.
use Prim.Native.Nat.{ℕ, ◌≤◌}
use mathlib.Core.Path.{◌≡◌}
use mathlib.Core.List.{List}
use lib.ListN.{length}
use Rattle.logic.specs.Figure1.{Same}
use Rattle.steps.specs.Figure1.{same}
use Rattle.steps.proofs.Figure1.{same_lawful}
use Rattle.sentences.specs.Verdict.{Written}
use Rattle.sentences.specs.Figure1.{record_text, sentences_answer, AnswerAfterRecord, TextOfDerivation, LinePerStep, SameLines, SameText, WrittenExactly, RefusedExactly, AnswersSmall, LongerFile, WholeText}
use Rattle.sentences.proofs.Text as Text
use Rattle.sentences.proofs.Answer as Answer
use Rattle.sentences.proofs.Refused as Refused
use Rattle.sentences.proofs.Small as Small
use Rattle.sentences.proofs.Printed as Printed

pub answer_after_record : AnswerAfterRecord
answer_after_record = Answer.answer_after_record same

pub text_of_derivation : TextOfDerivation
text_of_derivation = Text.text_of_derivation same Same same_lawful.decides

pub line_per_step : LinePerStep
line_per_step = Text.line_per_step same Same same_lawful.decides

pub same_lines : SameLines
same_lines = Text.same_lines Same

pub same_text : SameText
same_text = Text.same_text Same

pub written_exactly : WrittenExactly
written_exactly = Answer.written_exactly same Same same_lawful.decides

-- A text that is written fits.
pub text_fits : (file : List ℕ) (room bytes count written : ℕ) → sentences_answer file room bytes ≡ Written count written
    → (length (record_text file) ≤ bytes) × (written ≡ length (record_text file))
text_fits = Answer.text_fits same

pub refused_exactly : RefusedExactly
refused_exactly = Refused.refused_exactly same Same same_lawful.decides

pub answers_small : AnswersSmall
answers_small = Small.answers_small same

pub longer_file : LongerFile
longer_file = Small.longer_file same

pub whole_text : WholeText
whole_text = Printed.whole_text same
