-- What is printed for a file is the line of the check's answer, or the text that was written: the laws behind the
-- functions of src/. Assumes nothing.
use Prim.Native.Nat.{ℕ, ◌+◌, ◌≤◌}
use native.Mathlib.Omega.{arith}
use mathlib.Core.Path.{◌≡◌, sym, ap, subst, ◌∙◌}
use mathlib.Core.List.{List, ◌++◌}
use lib.ListN.{length, drop, replicate, length-replicate}
use borrow.Author.Tests.{le-leb}
use Rattle.basics.proofs.Written.{written_fits}
use Rattle.text.specs.Fill.{place_after}
use Rattle.text.proofs.Places.{fill_fits}
use Rattle.basics.specs.Limits.{most_statements}
use Rattle.record.specs.Verdict.{RecordVerdict}
use Rattle.record.specs.Verdict as Record
use Rattle.record.specs.Figure1.{record_answer}
use Rattle.record.specs.ListAfter.{list_after}
use Rattle.line.specs.RefusedLine.{refused_line}
use Rattle.line.specs.RecordLine.{record_line}
use Rattle.line.specs.Figure1.{printed_line}
use Rattle.line.proofs.Line.{Owed, owed_all}
use Rattle.line.proofs.Figure1.{line_of_call}
use Rattle.sentences.specs.Verdict.{SentencesVerdict, Written, Refused}
use Rattle.sentences.specs.Figure1.{record_text, sentences_answer, text_after, printed_for, printed_text}
use Rattle.sentences.proofs.Figure1.{text_fits}

-- "lends a list of 256 words" (01)
abbrev lent : List ℕ
lent = replicate most_statements 0

-- The line of the check's answer and of the list that it leaves.
pub printed :
    (file before : List ℕ) {v : RecordVerdict} {list : List ℕ} {count : ℕ} {after : List ℕ}
    → v ≡ record_answer file (length lent) → list ≡ list_after file v lent
    → Owed before (record_line v list) count after → Owed before (printed_line file) count after
printed file before {v} {list} {count} {after} answered left =
    subst (λ (line : List ℕ). Owed before line count after)
    (line_of_call file lent list v (length-replicate {A = ℕ} most_statements 0) answered left)

-- ---- sentences

module _ (file before : List ℕ) {v : SentencesVerdict}
    (answered : v ≡ sentences_answer file (length lent) (length before)) where
  -- the answer with 256 words
  answer_is : sentences_answer file most_statements (length before) ≡ v
  answer_is =
      ap (λ (room : ℕ). sentences_answer file room (length before)) (sym (length-replicate {A = ℕ} most_statements 0))
      ∙ sym answered

  -- A text that was written is what is printed,
  pub text_printed : {count bytes : ℕ} {after : List ℕ} → v ≡ Written count bytes → after ≡ text_after file v before
      → Owed before (printed_text file (length before)) bytes after
  text_printed {count} {bytes} {after} is left =
      let (fits, sized) = text_fits file most_statements (length before) count bytes (answer_is ∙ is) in
      let same : printed_text file (length before) ≡ record_text file = ap (printed_for file) (answer_is ∙ is) in
      let end : place_after before 0 (record_text file)
      ≡ 0 + length (record_text file) = fill_fits before 0 (record_text file) (omega arith) in
      let room : length (printed_text file (length before)) ≤ length before = omega (arith, fits, ap length same) in
      owed_all before same (le-leb _ _ room) (
        left ∙ ap (λ (w : SentencesVerdict). text_after file w before) is
            ∙ ap (λ (n : ℕ). record_text file ++ drop n before) sized
            ∙ sym (written_fits before (record_text file) fits),
        omega (arith, end, sized),
      )

  -- and where it was refused, the line is.
  pub refusal_printed : (list : List ℕ) {number place count : ℕ} {mid after : List ℕ} → v ≡ Refused number place
      → mid ≡ text_after file v before → Owed mid (record_line (Record.Refused number place) list) count after
      → Owed before (printed_text file (length before)) count after
  unfolding record_line
  refusal_printed list {number} {place} {count} {mid} {after} is left owed =
      let same : printed_text file (length before) ≡ refused_line number place = ap (printed_for file) (answer_is ∙ is) in
      let lent_same : mid ≡ before = left ∙ ap (λ (w : SentencesVerdict). text_after file w before) is in
      subst (λ (line : List ℕ). Owed before line count after) (sym same)
      (subst (λ (text : List ℕ). Owed text (refused_line number place) count after) lent_same owed)
