-- A table in a file: two arrays of F words each have a size that 2 allows, and 4 and 5, as `check_table` makes them,
-- stand before the other tests. Assumes nothing.
use Prim.Native.Nat.{ℕ, ◌≤◌}
use native.Mathlib.Omega.{arith}
use mathlib.Core.Path.{◌≡◌, sym, ◌∙◌}
use mathlib.Core.List.{List, ◌++◌}
use lib.ListN.{length}
use Rattle.basics.specs.Tested.{Tested, Passed, Refused}
use Rattle.basics.specs.Refusals.{Test, first_refusal}
use Rattle.basics.specs.Limits.{most_formulas}
use Rattle.basics.proofs.Asked.{at_most, equal, both_are}
use Rattle.basics.proofs.Refusals.{joined_refused, joined_passed}
use Rattle.table.specs.Tests.{entries, SizedTable, entry_tests, table_tests}
use Rattle.table.proofs.Entries.{length_entries_equal}
use Rattle.table.proofs.Answers.{after_2}

-- Two arrays of F words each, where F is in its range.
pub sized_table_lem : (heads seconds : List ℕ) {F : ℕ} → length heads ≡ F → length seconds ≡ F → 1 ≤ F → F ≤ most_formulas → SizedTable heads seconds
sized_table_lem heads seconds first second some few =
    let alike = equal (length heads) (length seconds) in
    let range = both_are (at_most 1 (length heads)) (at_most (length heads) most_formulas) in
    (both_are alike range).1 (first ∙ sym second, (omega (arith, first), omega (arith, first)))

-- They have F entries.
pub length_table : (heads seconds : List ℕ) {F : ℕ} → length heads ≡ F → length seconds ≡ F → length (entries heads seconds) ≡ F
length_table heads seconds first second = length_entries_equal heads seconds (first ∙ sym second) ∙ first

module _ (heads seconds : List ℕ) (fits : SizedTable heads seconds) {t : Tested} (answered : t ≡ table_tests heads seconds) (rest : List Test) where
  -- 2 has no part in what `check_table` answers.
  without_2 : t ≡ first_refusal (entry_tests heads seconds)
  without_2 = answered ∙ after_2 heads seconds fits

  -- A refusal by 4 or 5 is the answer,
  pub refused_4_5 : {number p : ℕ} → t ≡ Refused number p → Refused number p ≡ first_refusal (entry_tests heads seconds ++ rest)
  refused_4_5 e = sym (joined_refused (entry_tests heads seconds) rest (sym without_2 ∙ e))

  -- and where they let pass, the tests that follow decide.
  pub after_4_5 : t ≡ Passed → first_refusal (entry_tests heads seconds ++ rest) ≡ first_refusal rest
  after_4_5 e = joined_passed (entry_tests heads seconds) rest (sym without_2 ∙ e)
