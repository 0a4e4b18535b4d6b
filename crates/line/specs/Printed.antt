-- "One program reads a record on standard input and lends a list of 256 words, one reads an exchange file; each prints
-- one line." (01) What they print for a file, where `speaks` compares principals; 01's are in Figure1.antt. Proved in
-- proofs/Printed.antt. Assumes nothing.
use Rattle.std.specs.Prelude.{ℕ, ◌≤◌, Bool, ◌≡◌, List, ◌++◌, length, drop}
use Rattle.basics.specs.Limits.{most_statements}
use Rattle.record.specs.Verdict.{RecordVerdict, Granted}
use Rattle.record.specs.Layout.{signers}
use Rattle.record.specs.Answer.{record_answer}
use Rattle.record.specs.ListAfter.{list_after}
use Rattle.exchange.specs.Answer.{exchange_answer}
use Rattle.independence.specs.Answer.{independence_answer}
use Rattle.line.specs.Line.{line_after, line_count}
use Rattle.line.specs.RecordLine.{record_line, most_line}
use Rattle.line.specs.ExchangeLine.{exchange_line}
use Rattle.line.specs.IndependenceLine.{independence_line}

module _ (speaks : ℕ → ℕ → Bool) where
  -- for a record: the line of the answer where 256 words are lent, with the record's signers
  abbrev pub printed_line : List ℕ → List ℕ
  printed_line file = record_line (record_answer speaks file most_statements) (signers file)

  -- It is the line of the check's answer and of the list as the check leaves it, whatever was in the 256 words.
  abbrev pub LineOfCall : Type 0
  LineOfCall =
      (file before after : List ℕ) (answer : RecordVerdict) → length before ≡ most_statements
      → answer ≡ record_answer speaks file (length before) → after ≡ list_after file answer before
      → record_line answer after ≡ printed_line file

  -- A call that grants a file, whatever list is lent: `answer` and `after` are, for Figure 1, what the contract of
  -- `check_record` says.
  pub record Grants (file before after : List ℕ) (answer : RecordVerdict) : Type 0 where
    pub answered : answer ≡ record_answer speaks file (length before)
    pub list_after : after ≡ list_after file answer before
    pub count : ℕ
    pub granted : answer ≡ Granted count

  -- "a granted record has one possible line" (02, job 1): two calls that grant a file, whatever their lists' lengths
  -- and contents, have the same line,
  abbrev pub OneLine : Type 0
  OneLine =
      (file before after before' after' : List ℕ) (answer answer' : RecordVerdict)
      → Grants file before after answer → Grants file before' after' answer'
      → record_line answer after ≡ record_line answer' after'

  -- which is the one that the program prints.
  abbrev pub LineOfGrant : Type 0
  LineOfGrant =
      (file before after : List ℕ) (answer : RecordVerdict) → Grants file before after answer
      → record_line answer after ≡ printed_line file

  -- Where there is room for the longest line, the whole line is written, whatever the file is: for a record,
  abbrev pub WholeLine : Type 0
  WholeLine =
      (file before : List ℕ) (count : ℕ) (after : List ℕ)
      → count ≡ line_count before (printed_line file) → after ≡ line_after before (printed_line file)
      → most_line ≤ length before → after ≡ printed_line file ++ drop count before

  -- for an exchange file,
  abbrev pub WholeExchangeLine : Type 0
  WholeExchangeLine =
      (file before : List ℕ) (count : ℕ) (after : List ℕ)
      → count ≡ line_count before (exchange_line (exchange_answer speaks file))
      → after ≡ line_after before (exchange_line (exchange_answer speaks file))
      → most_line ≤ length before → after ≡ exchange_line (exchange_answer speaks file) ++ drop count before

  -- and for a record and a principal.
  abbrev pub WholeIndependenceLine : Type 0
  WholeIndependenceLine =
      (file before : List ℕ) (K count : ℕ) (after : List ℕ)
      → count ≡ line_count before (independence_line (independence_answer speaks file K))
      → after ≡ line_after before (independence_line (independence_answer speaks file K))
      → most_line ≤ length before → after ≡ independence_line (independence_answer speaks file K) ++ drop count before
