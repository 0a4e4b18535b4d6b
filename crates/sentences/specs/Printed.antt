-- What the program for sentences prints for a file: the text, or 01's line of a refusal. It lends a list of 256 words
-- and 1 MiB. Proved in proofs/Printed.antt. Assumes nothing.
use Rattle.std.specs.Prelude.{ℕ, ◌≤◌, Bool, ◌≡◌, List, ◌++◌, length, drop, Err, Ok}
use Rattle.basics.specs.Limits.{most_statements}
use Rattle.line.specs.Line.{line_after, line_count}
use Rattle.line.specs.RefusedLine.{refused_line}
use Rattle.line.specs.RecordLine.{most_line}
use Rattle.sentences.specs.Verdict.{SentencesVerdict, Written, Refused}
use Rattle.sentences.specs.Answer.{record_text, sentences_answer}

-- 1 MiB
abbrev pub most_text : ℕ
most_text = 1048576

module _ (speaks : ℕ → ℕ → Bool) where
  -- what is printed for an answer
  abbrev pub printed_for : List ℕ → SentencesVerdict → List ℕ
  printed_for file (Ok counts) = record_text speaks file
  printed_for file (Err refusal) = refused_line refusal.number refusal.place

  -- where a list of 256 words and so many bytes are lent
  abbrev pub printed_text : List ℕ → ℕ → List ℕ
  printed_text file bytes = printed_for file (sentences_answer speaks file most_statements bytes)

  -- Where there is room for a refusal's line, the whole is written, whatever the file is.
  abbrev pub WholeText : Type 0
  WholeText =
      (file before : List ℕ) (count : ℕ) (after : List ℕ)
      → count ≡ line_count before (printed_text file (length before))
      → after ≡ line_after before (printed_text file (length before))
      → most_line ≤ length before → after ≡ printed_text file (length before) ++ drop count before
