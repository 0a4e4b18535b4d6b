-- 4, 5 and 7 as the code makes them: each answer is a case of `array_tests`. Assumes nothing.
use Prim.Native.Nat.{ℕ}
use mathlib.Core.Path.{◌≡◌, sym, ◌∙◌}
use mathlib.Core.List.{List, [], ◌∷◌}
use lib.ListN.{length}
use Rattle.basics.specs.Place.{Place, At, Nowhere}
use Rattle.basics.specs.Tested.{Tested, Passed, Refused}
use Rattle.basics.specs.Refusals.{Test, test, first_refusal}
use Rattle.basics.proofs.Refusals.{applies, goes_on, none_left}
use Rattle.file.specs.Outside.{outside}
use Rattle.table.specs.Tests.{table_tests, SizedTable}
use Rattle.table.proofs.TableTests as Table
use Rattle.exchange_check.specs.Parts.{array_tests}

module _ (heads seconds lists : List ℕ) (sized : SizedTable heads seconds) {t : Tested} (answered : t ≡ table_tests heads seconds) where
  -- the test that follows 4 and 5, which `check_table` makes
  abbrev from_7 : List Test
  from_7 = test 7 (outside (length heads) lists) ∷ []

  abbrev all : Tested
  all = first_refusal (array_tests heads seconds lists)

  pub refused_4_5 : {number p : ℕ} → t ≡ Refused number p → Refused number p ≡ all
  refused_4_5 = Table.refused_4_5 heads seconds sized answered from_7

  module _ (passed : t ≡ Passed) {place : Place} (found : place ≡ outside (length heads) lists) where
    after_5 : all ≡ first_refusal from_7
    after_5 = Table.after_4_5 heads seconds sized answered from_7 passed

    pub refused_7 : {p : ℕ} → place ≡ At p → Refused 7 p ≡ all
    refused_7 e = sym (after_5 ∙ applies 7 [] (sym found ∙ e))

    pub passed_7 : place ≡ Nowhere → Passed ≡ all
    passed_7 none = sym (after_5 ∙ goes_on 7 [] (sym found ∙ none) ∙ none_left)
