-- What a call that writes a record's proof in sentences answers, for every file of any bytes and length and every
-- length of what is lent, and what it leaves there. `speaks` compares principals, for code 11: 01 has "the same K"
-- (Figure1.antt). Proved in proofs/Answer.antt. Assumes nothing.
use Rattle.std.specs.Prelude.{ℕ, Bool, ◌≡◌, List, [], ◌∷◌, ◌++◌, length, drop, ltb, Err, Ok}
use Rattle.basics.specs.Place.{Place}
use Rattle.basics.specs.Choice.{pick}
use Rattle.basics.specs.Limits.{most_depth}
use Rattle.basics.specs.Refusals.{Test, test, at0, first_refusal, unless_refused}
use Rattle.steps.specs.Obligation.{obligation}
use Rattle.steps.specs.Trace.{Line, trace}
use Rattle.record.specs.Verdict.{RecordVerdict}
use Rattle.record.specs.Verdict as Verdict
use Rattle.record.specs.Layout.{goal, statements, steps, table, signers}
use Rattle.record.specs.Answer as Record
use Rattle.record.specs.Answer.{record_answer}
use Rattle.sentences.specs.Verdict.{SentencesVerdict, Written, Refused}
use Rattle.sentences.specs.Sentences.{sentences}

-- What is in the lent list after a call that has this answer, where it was `before`: "The signers' list is lent and
-- filled too" (02). "A call .. writes from its start .. and changes nothing beyond"; "a refusal .. changes nothing that
-- is lent" (01).
abbrev pub signers_after : List ℕ → SentencesVerdict → List ℕ → List ℕ
signers_after file (Ok counts) before = signers file ++ drop counts.signers before
signers_after file (Err refusal) before = before

module _ (speaks : ℕ → ℕ → Bool) where
  -- the lines of a file's steps, where its goal is to be proved from its statements, and their text
  abbrev pub record_lines : List ℕ → List Line
  record_lines file = trace speaks most_depth (table file) (steps file) (obligation (statements file) (goal file) ∷ [])

  abbrev pub record_text : List ℕ → List ℕ
  record_text file = sentences (record_lines file)

  -- "16, after 15, the lent bytes are fewer than the whole text; place 0" (02, job 2)
  abbrev pub text_short : List ℕ → ℕ → Place
  text_short file bytes = at0 (ltb bytes (length (record_text file)))

  -- the record's own tests in the record's order, then 16; a list of `room` words and a text of `bytes` bytes are lent
  abbrev pub tests : List ℕ → ℕ → ℕ → List Test
  tests file room bytes = Record.tests speaks file room ++ (test 16 (text_short file bytes) ∷ [])

  -- "A call that writes a list or a text .. gives how many words or bytes it wrote." (01)
  unfoldable pub sentences_answer : List ℕ → ℕ → ℕ → SentencesVerdict
  sentences_answer file room bytes =
      unless_refused (first_refusal (tests file room bytes))
      (Written (length (signers file)) (length (record_text file)))

  -- what is in the lent bytes
  abbrev pub text_after : List ℕ → SentencesVerdict → List ℕ → List ℕ
  text_after file (Ok counts) before = record_text file ++ drop counts.bytes before
  text_after file (Err refusal) before = before

  -- What follows a record's answer: its refusal stands, and after a grant 16 decides.
  abbrev pub after_record : List ℕ → ℕ → RecordVerdict → SentencesVerdict
  after_record file bytes (Verdict.Granted count) =
      pick (ltb bytes (length (record_text file))) (Refused 16 0) (Written count (length (record_text file)))
  after_record file bytes (Err refusal) = Err refusal

  -- The answer is what follows the record's own.
  abbrev pub AnswerAfterRecord : Type 0
  AnswerAfterRecord =
      (file : List ℕ) (room bytes : ℕ)
      → sentences_answer file room bytes ≡ after_record file bytes (record_answer speaks file room)
