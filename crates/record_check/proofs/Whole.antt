-- The parts of the check are `record_answer`, and what it leaves in the list is `list_after`. Assumes nothing.
use Prim.Native.Nat.{ℕ, ◌≤◌}
use native.Mathlib.Omega.{arith}
use mathlib.Core.Bool.{true, not}
use mathlib.Core.Path.{◌≡◌, sym, ap, ◌∙◌}
use mathlib.Core.List.{List, ◌++◌}
use lib.ListN.{length, drop}
use Rattle.std.specs.Prelude.{Err}
use Rattle.basics.specs.Tested.{Tested}
use Rattle.basics.specs.Tested as Outcome
use Rattle.basics.specs.Refusals.{Test, first_refusal, unless_refused}
use Rattle.basics.proofs.Refusals.{goes_on_at_0, joined_refused, joined_passed}
use Rattle.basics.proofs.Written.{written_fits}
use Rattle.file.specs.Layout.{layout_tests}
use Rattle.file.proofs.LayoutLaws.{passed_to_three, parts_whole, sized_most}
use Rattle.steps.specs.Figure1.{same}
use Rattle.record.specs.Verdict.{RecordVerdict, Granted, Refused}
use Rattle.record.specs.Layout.{record_layout, most_bytes, goal, heads, seconds, statements, steps, signers}
use Rattle.record.specs.Answer as Every
use Rattle.record.specs.Figure1.{tests, record_answer}
use Rattle.record.specs.ListAfter.{list_after}
use Rattle.record.specs.Proof.{Sized}
use Rattle.record.proofs.LayoutIs.{sized, bounded}
use Rattle.record.proofs.Lengths.{length_heads, length_seconds}
use Rattle.record.proofs.Figure1.{granted_exactly}
use Rattle.record.proofs.Answered.{answer_refused}
use Rattle.record_check.specs.Parts.{sizes_fit, content_tests, arrays_answer, PartsOfRecord, list_written}
use Rattle.record_check.proofs.PartTests.{sizes_fit_exactly}

module _ (file : List ℕ) where
  -- ---- 1 to 3

  abbrev from_4 : ℕ → List Test
  from_4 room = drop 3 (tests file room)

  -- A refusal by 1 to 3 is the answer.
  pub layout_refused : (room : ℕ) {t : Tested} {number p : ℕ} → t ≡ first_refusal (layout_tests record_layout file) → t ≡ Outcome.Refused number p
      → Refused number p ≡ record_answer file room
  layout_refused room {t} {number} {p} answered e =
      sym ((answer_refused same file room number p).1
      (joined_refused (layout_tests record_layout file) (from_4 room) (sym answered ∙ e)))

  -- A file that they let pass has the sizes and the length that the layout asks for.
  pub layout_passed : {t : Tested} → t ≡ first_refusal (layout_tests record_layout file) → t ≡ Outcome.Passed → Sized file
  layout_passed answered e = (sized file).0 ((passed_to_three record_layout file).0 (sym answered ∙ e))

  -- and is no longer than the longest.
  pub within_most : Sized file → length file ≤ most_bytes
  within_most s = sized_most record_layout bounded file ((sized file).1 s)

  -- ---- 2 and 4 to 15

  module _ (s : Sized file) where
    -- The arrays have the sizes that 2 allows,
    pub sizes_fit_lem : sizes_fit (heads file) (seconds file) (statements file) ≡ true
    sizes_fit_lem =
        let r = s.in_range in
        let F = length_heads file s in
        let S = parts_whole record_layout file ((sized file).1 s) 2 in
        (sizes_fit_exactly (heads file) (seconds file) (statements file)).1
        record {
          alike = F ∙ sym (length_seconds file s);
          some_formulas = omega (arith, F, r.some_formulas);
          few_formulas = omega (arith, F, r.few_formulas);
          few_statements = omega (arith, S, r.few_statements);
        }

    -- so 4 to 15 are left of the tests
    tests_from_4 :
        (room : ℕ)
        → first_refusal (content_tests (heads file) (seconds file) (statements file) (goal file) (steps file) room)
        ≡ first_refusal (tests file room)
    tests_from_4 room =
        let passed = (passed_to_three record_layout file).1 ((sized file).1 s) in
        goes_on_at_0 2 _ (ap not sizes_fit_lem)
        ∙ rw (length_heads file s) (sym (joined_passed (layout_tests record_layout file) (from_4 room) passed))

    answers : (room : ℕ) → arrays_answer (heads file) (seconds file) (statements file) (goal file) (steps file) room ≡ record_answer file room
    unfolding Every.record_answer
    answers room = ap (λ (t : Tested). unless_refused t (Granted (length (signers file)))) (tests_from_4 room)

    -- what is in the list at the end
    leaves : (before after : List ℕ) (v : RecordVerdict) → v ≡ record_answer file (length before)
        → after ≡ list_written v (heads file) (seconds file) (statements file) (steps file) before
        → after ≡ list_after file v before
    leaves before after (Granted count) e w =
        let grant = (granted_exactly file (length before) count).0 (sym e) in
        w ∙ written_fits before (signers file) grant.fits
        ∙ ap (λ (n : ℕ). signers file ++ drop n before) (sym grant.counted)
    leaves before after (Err r) e w = w

    -- so what the code answers over the parts that it took, and leaves in the list
    pub whole :
        (before : List ℕ) {hs ss ns ws after : List ℕ} {g : ℕ} {v : RecordVerdict}
        → hs ≡ heads file → ss ≡ seconds file → ns ≡ statements file → g ≡ goal file → ws ≡ steps file
        → v ≡ arrays_answer hs ss ns g ws (length before) → after ≡ list_written v hs ss ns ws before
        → (v ≡ record_answer file (length before)) × (after ≡ list_after file v before)
    whole before {hs} {ss} {ns} {ws} {after} {g} {v} eh es en eg ew answered left =
        let one : v ≡ arrays_answer (heads file) (seconds file) (statements file) (goal file) (steps file) (length before) =
        answered ∙ (λ i. arrays_answer (eh i) (es i) (en i) (eg i) (ew i) (length before)) in
        let two : after ≡ list_written v (heads file) (seconds file) (statements file) (steps file) before =
        left ∙ (λ i. list_written v (eh i) (es i) (en i) (ew i) before) in
        let is = one ∙ answers (length before) in
        (is, leaves before after v is two)

pub parts_of_record : PartsOfRecord
parts_of_record file s room = answers file s room
