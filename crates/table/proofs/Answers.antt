-- What `table_tests` answers, case by case, in the order in which the code asks. Assumes nothing.
use Prim.Native.Nat.{ℕ, ◌≤◌}
use mathlib.Core.Bool.{true, false, not}
use mathlib.Core.List.{List, [], ◌∷◌}
use mathlib.Core.Path.{◌≡◌, ap, ◌∙◌}
use lib.ListN.{length}
use lib.Dec.{eqb, leb}
use borrow.Author.Tests.{eqb-true, leb-true}
use Rattle.basics.specs.Place.{At, Nowhere}
use Rattle.basics.specs.Tested.{Passed, Refused}
use Rattle.basics.specs.Choice.{both}
use Rattle.basics.specs.Limits.{most_formulas}
use Rattle.basics.specs.Refusals.{Test, test, first_refusal}
use Rattle.basics.proofs.Choice.{both_true}
use Rattle.basics.proofs.Refusals.{applies, goes_on, applies_at_0, goes_on_at_0, none_left}
use Rattle.table.specs.Tests.{entries, wrong_entry, repeated_entry, sized, entry_tests, table_tests}

module _ (hs ss : List ℕ) where
  -- What 2 leaves for the tests that follow.
  pub sizes : sized hs ss ≡ true → (length hs ≡ length ss) × (length hs ≤ most_formulas)
  sizes e =
      let (alike, range) = (both_true (eqb (length hs) (length ss)) (both (leb 1 (length hs)) (leb (length hs) most_formulas))).0 e in
      let (some, few) = (both_true (leb 1 (length hs)) (leb (length hs) most_formulas)).0 range in
      (eqb-true _ _ alike, leb-true _ _ few)

  -- 2 refuses,
  pub refused_2 : sized hs ss ≡ false → table_tests hs ss ≡ Refused 2 0
  unfolding table_tests
  refused_2 e = applies_at_0 2 (entry_tests hs ss) (ap not e)

  module _ (e : sized hs ss ≡ true) where
    -- else 4 and 5 decide:
    pub after_2 : table_tests hs ss ≡ first_refusal (entry_tests hs ss)
    unfolding table_tests
    after_2 = goes_on_at_0 2 (entry_tests hs ss) (ap not e)

    abbrev test_5 : List Test
    test_5 = test 5 (repeated_entry hs ss) ∷ []

    -- 4 refuses,
    pub refused_4 : (i : ℕ) → wrong_entry (entries hs ss) ≡ At i → table_tests hs ss ≡ Refused 4 i
    refused_4 i w = after_2 ∙ applies 4 test_5 w

    -- else 5 does,
    pub refused_5 : (i : ℕ) → wrong_entry (entries hs ss) ≡ Nowhere → repeated_entry hs ss ≡ At i → table_tests hs ss ≡ Refused 5 i
    refused_5 i w r = after_2 ∙ goes_on 4 test_5 w ∙ applies 5 [] r

    -- else the table passed.
    pub passed : wrong_entry (entries hs ss) ≡ Nowhere → repeated_entry hs ss ≡ Nowhere → table_tests hs ss ≡ Passed
    passed w r = after_2 ∙ goes_on 4 test_5 w ∙ goes_on 5 [] r ∙ none_left
