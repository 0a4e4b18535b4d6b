-- A table that passes its tests. Assumes nothing.
use mathlib.Core.Bool.{not}
use mathlib.Core.List.{◌∷◌}
use Rattle.basics.specs.Refusals.{test, at0}
use Rattle.basics.proofs.Asked.{not_other, at0_nowhere}
use Rattle.basics.proofs.Refusals.{passed_by_all}
use Rattle.table.specs.Tests.{entries, sized, entry_tests, table_tests}
use Rattle.table.specs.Laws.{PassedIsGood}
use Rattle.table.proofs.Answers.{sizes}
use Rattle.table.proofs.Ordered.{no_fault_ordered}
use Rattle.table.proofs.Distinct.{no_fault_distinct}

pub passed_is_good : PassedIsGood
unfolding table_tests
passed_is_good heads seconds e =
    let (two, (four, (five, _))) = (passed_by_all (test 2 (at0 (not (sized heads seconds))) ∷ entry_tests heads seconds)).0 e in
    let (alike, few) = sizes heads seconds ((at0_nowhere _ (not_other (sized heads seconds) (λ z. z, λ z. z))).0 two) in
    let ordered = (no_fault_ordered (entries heads seconds)).0 four in
    record { same_length = alike; few = few; ordered = ordered; distinct = no_fault_distinct heads seconds alike ordered five }
