-- The parts of the check are `exchange_answer`. Assumes nothing.
use Prim.Native.Nat.{ℕ, ◌≤◌}
use mathlib.Core.Path.{◌≡◌, sym, ap, ◌∙◌}
use mathlib.Core.List.{List, [], ◌∷◌, ◌++◌}
use lib.ListN.{length, drop}
use Rattle.basics.specs.Tested.{Tested}
use Rattle.basics.specs.Tested as Outcome
use Rattle.basics.specs.Refusals.{Test, first_refusal, unless_refused}
use Rattle.basics.proofs.Refusals.{joined_refused, joined_passed}
use Rattle.file.specs.Layout.{layout_tests}
use Rattle.file.proofs.LayoutLaws.{passed_to_three, sized_most}
use Rattle.steps.specs.Figure1.{same}
use Rattle.exchange.specs.Verdict.{ExchangeVerdict, Equal, Refused}
use Rattle.exchange.specs.Layout.{exchange_layout, most_bytes, heads, seconds, first_list, second_list, steps}
use Rattle.exchange.specs.Answer as Every
use Rattle.exchange.specs.Figure1.{tests, exchange_answer}
use Rattle.exchange.specs.Proofs.{Sized}
use Rattle.exchange.proofs.LayoutIs.{sized, bounded}
use Rattle.exchange.proofs.Lengths.{length_heads}
use Rattle.exchange.proofs.Answered.{answer_refused}
use Rattle.exchange_check.specs.Parts.{array_tests, step_test, arrays_answer}

module _ (file : List ℕ) where
  -- ---- 1 to 3

  abbrev from_4 : List Test
  from_4 = drop 3 (tests file)

  -- A refusal by 1 to 3 is the answer.
  pub layout_refused : {t : Tested} {number p : ℕ} → t ≡ first_refusal (layout_tests exchange_layout file) → t ≡ Outcome.Refused number p
      → Refused number p ≡ exchange_answer file
  layout_refused {t} {number} {p} answered e =
      sym ((answer_refused same file number p).1
      (joined_refused (layout_tests exchange_layout file) from_4 (sym answered ∙ e)))

  -- A file that they let pass has the sizes and the length that the layout asks for.
  pub layout_passed : {t : Tested} → t ≡ first_refusal (layout_tests exchange_layout file) → t ≡ Outcome.Passed → Sized file
  layout_passed answered e = (sized file).0 ((passed_to_three exchange_layout file).0 (sym answered ∙ e))

  -- and is no longer than the longest.
  pub within_most : Sized file → length file ≤ most_bytes
  within_most s = sized_most exchange_layout bounded file ((sized file).1 s)

  -- ---- 4 to 15

  module _ (s : Sized file) where
    -- 4 to 15 are left of the tests
    tests_from_4 :
        first_refusal
        (array_tests (heads file) (seconds file) (first_list file ++ second_list file)
        ++ (step_test (heads file) (seconds file) (first_list file) (second_list file) (steps file) ∷ []))
        ≡ first_refusal (tests file)
    tests_from_4 =
        let passed = (passed_to_three exchange_layout file).1 ((sized file).1 s) in
        rw (length_heads file s) (sym (joined_passed (layout_tests exchange_layout file) from_4 passed))

    answers :
        arrays_answer (heads file) (seconds file) (first_list file ++ second_list file) (first_list file) (second_list file) (steps file)
        ≡ exchange_answer file
    unfolding Every.exchange_answer
    answers = ap (λ (t : Tested). unless_refused t Equal) tests_from_4

    -- so what the code answers over the parts that it took
    pub whole :
        {hs ss lists first second ws : List ℕ} {v : ExchangeVerdict}
        → hs ≡ heads file → ss ≡ seconds file → lists ≡ first_list file ++ second_list file → first ≡ first_list file → second ≡ second_list file
        → ws ≡ steps file → v ≡ arrays_answer hs ss lists first second ws → v ≡ exchange_answer file
    whole eh es el e₁ e₂ ew answered = answered ∙ (λ i. arrays_answer (eh i) (es i) (el i) (e₁ i) (e₂ i) (ew i)) ∙ answers
