-- What a call answers and leaves over a record's arrays, which `judge_contents` has tested: its parts of
-- `sentences_answer`, `signers_after` and `text_after` (sentences/specs/Answer.antt). Assumes nothing.
use Rattle.std.specs.Prelude.{ℕ, List, [], ◌∷◌, length, ltb, Err, Ok}
use Rattle.basics.specs.Choice.{pick}
use Rattle.basics.specs.Refusals.{first_refusal, unless_refused}
use Rattle.basics.specs.Written.{written}
use Rattle.table.specs.Tests.{entries}
use Rattle.steps.specs.Obligation.{obligation}
use Rattle.steps.specs.Figure1.{trace}
use Rattle.signers_write.specs.Arrays.{arrays_signers}
use Rattle.record_check.specs.Parts.{content_tests}
use Rattle.sentences.specs.Verdict.{SentencesVerdict, Written, Refused}
use Rattle.sentences.specs.Sentences.{sentences}

module _ (heads seconds statements : List ℕ) (goal : ℕ) (steps : List ℕ) where
  abbrev pub arrays_text : List ℕ
  arrays_text = sentences (trace (entries heads seconds) steps (obligation statements goal ∷ []))

  -- 2 and 4 to 15, 8, and then 16
  abbrev pub arrays_answer : ℕ → ℕ → SentencesVerdict
  arrays_answer room bytes =
      unless_refused (first_refusal (content_tests heads seconds statements goal steps room))
      (pick (ltb bytes (length arrays_text)) (Refused 16 0)
      (Written (length (arrays_signers heads seconds statements steps)) (length arrays_text)))

  -- what is then in the lent list and in the lent bytes
  abbrev pub list_written : SentencesVerdict → List ℕ → List ℕ
  list_written (Ok counts) before = written before (arrays_signers heads seconds statements steps)
  list_written (Err refusal) before = before

  abbrev pub text_written : SentencesVerdict → List ℕ → List ℕ
  text_written (Ok counts) before = written before arrays_text
  text_written (Err refusal) before = before
