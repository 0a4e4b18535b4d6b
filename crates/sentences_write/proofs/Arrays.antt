-- A call over a record's arrays: what has passed the record's own tests closes, so the lines at the goals that
-- `write_goals` keeps are the trace; and each answer of the code is a case of `arrays_answer`. Assumes nothing.
use Prim.Native.Nat.{ℕ, ◌+◌, ◌≤◌, ◌<◌}
use native.Mathlib.Omega.{arith}
use mathlib.Core.Bool.{Bool}
use mathlib.Core.Path.{◌≡◌, sym, ap, ◌∙◌}
use mathlib.Core.List.{List, [], ◌∷◌}
use lib.ListN.{length, replicate, length-replicate}
use lib.Dec.{ltb}
use borrow.Author.Tests.{lt-ltb}
use Rattle.basics.specs.Tested.{Tested, Passed}
use Rattle.basics.specs.Choice.{pick}
use Rattle.basics.specs.Limits.{most_formulas, most_steps, most_depth}
use Rattle.basics.specs.Refusals.{first_refusal, unless_refused}
use Rattle.basics.specs.Written.{written, written_at}
use Rattle.basics.proofs.Asked.{at0_nowhere, not_less, not_other}
use Rattle.basics.proofs.Refusals.{passed_by_all}
use Rattle.text.specs.Fill.{place_after}
use Rattle.text.proofs.Places.{fill_fits}
use Rattle.table.specs.Tests.{entries}
use Rattle.table.proofs.Entries.{length_entries}
use Rattle.steps.specs.Verdict.{Closed}
use Rattle.steps.specs.Obligation.{obligation}
use Rattle.steps.specs.Figure1.{run}
use Rattle.steps.proofs.Figure1.{closed_uses_all}
use Rattle.steps.proofs.Walked.{walked_nowhere}
use Rattle.signers_write.specs.Arrays.{arrays_signers}
use Rattle.record_check.specs.Parts.{content_tests, SizesFit}
use Rattle.record_check.proofs.PartTests.{sizes_fit_exactly}
use Rattle.goals.specs.Kept.{lines_at}
use Rattle.goals.specs.Goals.{goals_of, numbers_of, affirms_of}
use Rattle.goals.proofs.Trace.{goals_written}
use Rattle.sentences.specs.Verdict.{SentencesVerdict, Written, Refused}
use Rattle.sentences.specs.Sentences.{sentences_from}
use Rattle.formula_write.specs.Length.{too_long, capped}
use Rattle.sentences_write.specs.Arrays.{arrays_text, arrays_answer}
use Rattle.formula_write.proofs.Lengths.{capped_below}

-- ---- after the tests

module _ (heads seconds statements : List ℕ) (goal : ℕ) (steps : List ℕ) (room : ℕ)
    {t : Tested} (judged : t ≡ first_refusal (content_tests heads seconds statements goal steps room))
    (passed : t ≡ Passed)
  where
    sizes : SizesFit heads seconds statements
    sizes =
        let (two, _) =
        (passed_by_all (content_tests heads seconds statements goal steps room)).0 (sym judged ∙ passed) in
        (at0_nowhere _ (not_other _ (sizes_fit_exactly heads seconds statements))).0 two

    -- there are no more formulas than 2 allows
    pub few_entries : length (entries heads seconds) ≤ most_formulas
    few_entries = let few = sizes.few_formulas in omega (arith, length_entries heads seconds)

    closes : run (entries heads seconds) steps (obligation statements goal ∷ []) ≡ Closed (length steps)
    closes =
        let (_, (_, (_, (_, (_, (walk, _)))))) = (passed_by_all
        (content_tests heads seconds statements goal steps room)).0 (sym judged ∙ passed) in
        let (q, closed) = (walked_nowhere (run (entries heads seconds) steps (obligation statements goal ∷ []))).0
        walk in
        closed
        ∙ ap Closed
        (closed_uses_all most_depth (entries heads seconds) (obligation statements goal ∷ []) steps q closed)

zero_then : (n : ℕ) → 0 + n ≡ n
zero_then n = omega arith

-- ---- each answer of the code is a case of `arrays_answer`

module _ (heads seconds statements : List ℕ) (goal : ℕ) (steps : List ℕ) (room bytes : ℕ)
    {t : Tested} (judged : t ≡ first_refusal (content_tests heads seconds statements goal steps room))
  where
    abbrev text : List ℕ
    text = arrays_text heads seconds statements goal steps

    abbrev all : SentencesVerdict
    all = arrays_answer heads seconds statements goal steps room bytes

    -- where the record's tests pass: by 16
    abbrev by_16 : Bool → SentencesVerdict
    by_16 short = pick short (Refused 16 0)
        (Written (length (arrays_signers heads seconds statements steps)) (length text))

    module _ (passed : t ≡ Passed) (few : length steps ≤ most_steps) {ns bs : List ℕ}
        (numbers : ns ≡ written (replicate most_steps 0) (numbers_of (goals_of (entries heads seconds) steps goal)))
        (affirms : bs ≡ written (replicate most_steps 0) (affirms_of (goals_of (entries heads seconds) steps goal)))
      where
        after_15 : all ≡ by_16 (ltb bytes (length text))
        after_15 = ap (λ (o : Tested). unless_refused o (by_16 (ltb bytes (length text)))) (sym judged ∙ passed)

        -- what the code writes is the text
        pub text_is : sentences_from 0 (lines_at (entries heads seconds) steps ns bs) ≡ text
        text_is =
            let zeros = length-replicate {A = ℕ} most_steps 0 in
            ap (sentences_from 0)
            ((λ i. lines_at (entries heads seconds) steps (numbers i) (affirms i))
            ∙ goals_written (entries heads seconds) statements goal steps
            (closes heads seconds statements goal steps room judged passed)
            (replicate most_steps 0) (replicate most_steps 0) (omega (arith, zeros)) (omega (arith, zeros)))

        module _ {n : ℕ} (measured : n ≡ capped (length
            (sentences_from 0 (lines_at (entries heads seconds) steps ns bs)))) (room_for : bytes < too_long) where
          -- its length, where it is capped
          length_is : ltb bytes n ≡ ltb bytes (length text)
          length_is =
              ap (ltb bytes) (measured ∙ ap (λ (l : List ℕ). capped (length l)) text_is)
              ∙ capped_below bytes (length text) room_for

          pub refused_16 : bytes < n → Refused 16 0 ≡ all
          refused_16 short = sym (after_15 ∙ ap by_16 (sym length_is ∙ lt-ltb bytes n short))

          -- all that is written, the text from the start of bytes that are so many
          pub all_written : (before : List ℕ) {after : List ℕ} {count size : ℕ} → n ≤ bytes → bytes ≡ length before
              → count ≡ length (arrays_signers heads seconds statements steps)
              → (after ≡ written_at before 0 (sentences_from 0 (lines_at (entries heads seconds) steps ns bs)))
              × (size ≡ place_after before 0 (sentences_from 0 (lines_at (entries heads seconds) steps ns bs)))
              → (Written count size ≡ all) × (after ≡ written before text)
          all_written before fits lent counted (filled, placed) =
              let short = sym length_is ∙ (not_less bytes n).1 fits in
              let enough = (not_less bytes (length text)).0 short in
              let end : place_after before 0 text ≡ length text = fill_fits before 0 text (omega arith)
              ∙ zero_then (length text) in
              let size_is = placed ∙ ap (place_after before 0) text_is ∙ end in (
                (λ i. Written (counted i) (size_is i)) ∙ sym (after_15 ∙ ap by_16 short),
                filled ∙ ap (written before) text_is,
              )
