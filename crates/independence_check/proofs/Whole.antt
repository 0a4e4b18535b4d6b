-- The parts of the test are `arrays_answer`, and over the arrays of a file `independence_answer`. Assumes nothing.
use Prim.Native.Nat.{ℕ, ◌≤◌, ◌<◌}
use mathlib.Core.Bool.{Bool, true, false, not}
use mathlib.Core.Path.{◌≡◌, refl, sym, ap, ◌∙◌}
use mathlib.Core.List.{List, [], ◌∷◌}
use lib.ListN.{length, drop}
use lib.Dec.{leb}
use borrow.Author.Tests.{le-leb, lt-leb}
use Rattle.std.specs.Prelude.{Ok}
use Rattle.basics.specs.Tested.{Tested}
use Rattle.basics.specs.Tested as Outcome
use Rattle.basics.specs.Choice.{pick}
use Rattle.basics.specs.Limits.{most_statements, most_principals}
use Rattle.basics.specs.Refusals.{Test, test, first_refusal, unless_refused}
use Rattle.basics.proofs.Choice.{both_true}
use Rattle.basics.proofs.Asked.{at0_nowhere, not_other}
use Rattle.basics.proofs.Refusals.{passed_by_all, applies_at_0, goes_on_at_0, joined_refused, joined_passed, none_left}
use Rattle.file.specs.Layout.{layout_tests}
use Rattle.file.proofs.LayoutLaws.{passed_to_three}
use Rattle.table.specs.declared.entry.Principal.{Principal}
use Rattle.table.specs.Entry.{principal}
use Rattle.table.specs.Tests.{sized as sized_table, SizedTable}
use Rattle.steps.specs.Figure1.{same}
use Rattle.record.specs.Layout.{record_layout, goal, heads, seconds, statements}
use Rattle.record.specs.Proof.{Sized}
use Rattle.record.proofs.LayoutIs.{sized}
use Rattle.record.proofs.Lengths.{length_heads}
use Rattle.record_check.specs.Parts.{part_tests, sizes_fit}
use Rattle.record_check.proofs.Whole.{sizes_fit_lem}
use Rattle.independence.specs.Verdict.{IndependenceVerdict, Independent, NotIndependent, Refused}
use Rattle.independence.specs.Answer as Every
use Rattle.independence.specs.Answer.{principal_outside, tests}
use Rattle.independence.specs.Figure1.{independence_answer}
use Rattle.independence_check.specs.Parts.{arrays_tests, arrays_independent, arrays_verdict, arrays_answer, PartsOfFile}

-- ---- over arrays

-- Independent or not is what the test says.
answered : (b : Bool) → Ok b ≡ pick b Independent NotIndependent
answered true = refl
answered false = refl

module _ (heads seconds statements : List ℕ) (goal K : ℕ) where
  abbrev to_7 : List Test
  to_7 = part_tests heads seconds statements goal

  abbrev only_17 : List Test
  only_17 = test 17 (principal_outside K) ∷ []

  abbrev answer : Tested → IndependenceVerdict
  answer t = unless_refused t (arrays_verdict heads seconds statements goal K)

  module _ {t : Tested} (parts : t ≡ first_refusal to_7) where
    pub refused_to_7 : {number p : ℕ} → t ≡ Outcome.Refused number p → Refused number p
        ≡ arrays_answer heads seconds statements goal K
    refused_to_7 e = ap answer (sym (joined_refused to_7 only_17 (sym parts ∙ e)))

    module _ (passed : t ≡ Outcome.Passed) where
      after_7 : first_refusal (arrays_tests heads seconds statements goal K) ≡ first_refusal only_17
      after_7 = joined_passed to_7 only_17 (sym parts ∙ passed)

      pub refused_17 : most_principals ≤ K → Refused 17 0 ≡ arrays_answer heads seconds statements goal K
      refused_17 l = ap answer (sym (after_7 ∙ applies_at_0 17 [] (le-leb _ _ l)))

      -- Else the test of sides decides, of the principal asked about.
      pub decided : {k : Principal} {b : Bool} → K < most_principals → k ≡ principal K
          → b ≡ arrays_independent heads seconds statements goal k.0
          → Ok b ≡ arrays_answer heads seconds statements goal K
      decided {b = b} l asked is =
          answered b
          ∙ ap (λ (b : Bool). pick b Independent NotIndependent) is
          ∙ ap
          (λ (k : Principal). pick (arrays_independent heads seconds statements goal k.0) Independent NotIndependent)
          asked
          ∙ ap answer (sym (after_7 ∙ goes_on_at_0 17 [] (lt-leb _ _ l) ∙ none_left))

      -- 2 lets pass tables of a size that it allows.
      pub sized_table_lem : SizedTable heads seconds
      sized_table_lem =
          let fit : sizes_fit heads seconds statements ≡ true =
          (at0_nowhere (not (sizes_fit heads seconds statements))
          (not_other (sizes_fit heads seconds statements) (λ e. e, λ e. e))).0
          ((passed_by_all to_7).0 (sym parts ∙ passed)).0 in
          ((both_true (sized_table heads seconds) (leb (length statements) most_statements)).0 fit).0

-- ---- over a file

module _ (file : List ℕ) where
  abbrev from_4 : ℕ → List Test
  from_4 K = drop 3 (tests file K)

  -- A refusal by 1 to 3 is the answer.
  pub layout_refused : (K : ℕ) {t : Tested} {number p : ℕ} → t ≡ first_refusal (layout_tests record_layout file)
      → t ≡ Outcome.Refused number p → Refused number p ≡ independence_answer file K
  unfolding Every.independence_answer
  layout_refused K answered e =
      ap (λ (t : Tested). unless_refused t (Every.verdict same file K))
      (sym (joined_refused (layout_tests record_layout file) (from_4 K) (sym answered ∙ e)))

  module _ (s : Sized file) where
    -- After 1 to 3 the arrays' tests are the file's,
    tests_from_4 : (K : ℕ) → first_refusal (arrays_tests (heads file) (seconds file) (statements file) (goal file) K)
        ≡ first_refusal (tests file K)
    tests_from_4 K =
        let passed = (passed_to_three record_layout file).1 ((sized file).1 s) in
        goes_on_at_0 2 _ (ap not (sizes_fit_lem file s))
        ∙ rw (length_heads file s) (sym (joined_passed (layout_tests record_layout file) (from_4 K) passed))

    -- and so their answer.
    answers : (K : ℕ) → arrays_answer (heads file) (seconds file) (statements file) (goal file) K
        ≡ independence_answer file K
    unfolding Every.independence_answer
    answers K = ap (λ (t : Tested). unless_refused t (Every.verdict same file K)) (tests_from_4 K)

    -- The same over the parts that the code took.
    pub whole : (K : ℕ) {hs ss ns : List ℕ} {g : ℕ} {v : IndependenceVerdict}
        → hs ≡ heads file → ss ≡ seconds file → ns ≡ statements file → g ≡ goal file
        → v ≡ arrays_answer hs ss ns g K → v ≡ independence_answer file K
    whole K eh es en eg answered =
        answered ∙ (λ i. arrays_answer (eh i) (es i) (en i) (eg i) K) ∙ answers K

pub parts_of_file : PartsOfFile
parts_of_file file s K = answers file s K
