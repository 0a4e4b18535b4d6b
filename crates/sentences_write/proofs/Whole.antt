-- Over the arrays of a file that 1 to 3 let pass, the call answers `sentences_answer` and leaves `signers_after` and
-- `text_after`. Assumes nothing.
use Prim.Native.Nat.{ℕ, ◌≤◌}
use native.Mathlib.Omega.{arith}
use mathlib.Core.Path.{◌≡◌, refl, sym, ap, ◌∙◌}
use mathlib.Core.List.{List, ◌++◌}
use lib.ListN.{length, drop}
use lib.Dec.{ltb}
use Rattle.std.specs.Prelude.{Err, Ok}
use Rattle.basics.specs.Tested.{Tested}
use Rattle.basics.specs.Tested as Outcome
use Rattle.basics.specs.Choice.{pick}
use Rattle.basics.specs.Limits.{most_steps}
use Rattle.basics.specs.Refusals.{first_refusal, unless_refused}
use Rattle.basics.proofs.Written.{written_fits}
use Rattle.file.specs.Layout.{layout_tests}
use Rattle.file.proofs.LayoutLaws.{parts_whole, sized_most}
use Rattle.record.specs.Verdict as Verdict
use Rattle.record.specs.Layout.{record_layout, goal, heads, seconds, statements, steps, most_bytes, signers}
use Rattle.record.specs.Proof.{Sized}
use Rattle.record.proofs.LayoutIs.{bounded, sized}
use Rattle.record_check.specs.Parts.{content_tests}
use Rattle.record_check.proofs.Whole.{layout_refused, parts_of_record}
use Rattle.sentences.specs.Verdict.{SentencesVerdict, Written, Refused}
use Rattle.sentences.specs.Answer.{signers_after}
use Rattle.sentences.specs.Figure1.{record_text, sentences_answer, text_after, after_record}
use Rattle.sentences.proofs.Figure1.{answer_after_record, text_fits, written_exactly}
use Rattle.sentences_write.specs.Arrays.{arrays_answer, list_written, text_written}

module _ (file : List ℕ) where
  -- ---- 1 to 3

  -- A refusal by 1 to 3 is the answer.
  pub refused_to_3 : (room bytes : ℕ) {t : Tested} {number p : ℕ} → t ≡ first_refusal (layout_tests record_layout file)
      → t ≡ Outcome.Refused number p
      → Refused number p ≡ sentences_answer file room bytes
  refused_to_3 room bytes answered e =
      ap (after_record file bytes) (layout_refused file room answered e) ∙ sym (answer_after_record file room bytes)

  -- ---- 2 and 4 to 16

  module _ (s : Sized file) where
    -- no more steps than 2 allows, and no more bytes than the longest record has
    pub few_steps : length (steps file) ≤ most_steps
    few_steps = let few = s.in_range.few_steps in omega (arith, parts_whole record_layout file ((sized file).1 s) 3)

    pub few_bytes : length file ≤ most_bytes
    few_bytes = sized_most record_layout bounded file ((sized file).1 s)

    -- what follows the record's tests
    after : (bytes : ℕ) (t : Tested)
        → unless_refused t
        (pick (ltb bytes (length (record_text file))) (Refused 16 0)
        (Written (length (signers file)) (length (record_text file))))
        ≡ after_record file bytes (unless_refused t (Verdict.Granted (length (signers file))))
    after bytes Outcome.Passed = refl
    after bytes (Err r) = refl

    answers : (room bytes : ℕ)
        → arrays_answer (heads file) (seconds file) (statements file) (goal file) (steps file) room bytes
        ≡ sentences_answer file room bytes
    answers room bytes =
        after bytes
        (first_refusal (content_tests (heads file) (seconds file) (statements file) (goal file) (steps file) room))
        ∙ ap (after_record file bytes) (parts_of_record file s room)
        ∙ sym (answer_after_record file room bytes)

    -- what is left in the list and in the bytes
    leaves : (list text : List ℕ) {list' text' : List ℕ} (v : SentencesVerdict) → v
        ≡ sentences_answer file (length list) (length text)
        → list' ≡ list_written (heads file) (seconds file) (statements file) (goal file) (steps file) v list
        → text' ≡ text_written (heads file) (seconds file) (statements file) (goal file) (steps file) v text
        → (list' ≡ signers_after file v list) × (text' ≡ text_after file v text)
    leaves list text (Ok w') e w x =
        let grant = ((written_exactly file (length list) (length text) w'.signers w'.bytes).0 (sym e)).grant in
        let (fits, counted) = text_fits file (length list) (length text) w'.signers w'.bytes (sym e) in (
          w ∙ written_fits list (signers file) grant.fits
              ∙ ap (λ (n : ℕ). signers file ++ drop n list) (sym grant.counted),
          x ∙ written_fits text (record_text file) fits ∙ ap (λ (n : ℕ). record_text file ++ drop n text) (sym counted),
        )
    leaves list text (Err r) e w x = (w, x)

    -- so what the code answers over the parts that it took, and leaves
    pub whole :
        (list text : List ℕ) {hs ss ns ws list' text' : List ℕ} {g : ℕ} {v : SentencesVerdict}
        → hs ≡ heads file → ss ≡ seconds file → ns ≡ statements file → g ≡ goal file → ws ≡ steps file
        → (v ≡ arrays_answer hs ss ns g ws (length list) (length text))
        × ((list' ≡ list_written hs ss ns g ws v list) × (text' ≡ text_written hs ss ns g ws v text))
        → (v ≡ sentences_answer file (length list) (length text))
        × ((list' ≡ signers_after file v list) × (text' ≡ text_after file v text))
    whole list text {hs} {ss} {ns} {ws} {list'} {text'} {g} {v} eh es en eg ew (answered, (listed, told)) =
        let is = answered ∙ (λ i. arrays_answer (eh i) (es i) (en i) (eg i) (ew i) (length list) (length text))
        ∙ answers (length list) (length text) in (
          is,
          leaves list text v is
              (listed ∙ (λ i. list_written (eh i) (es i) (en i) (eg i) (ew i) v list))
              (told ∙ (λ i. text_written (eh i) (es i) (en i) (eg i) (ew i) v text)),
        )
