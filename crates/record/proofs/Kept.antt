-- A file keeps the layout and its limits exactly when no reason of 1 to 7 applies (specs/Promises.antt,
-- `KeepsExactly`). Assumes nothing.
use Prim.Native.Nat.{ℕ, ◌≤◌}
use native.Mathlib.Omega.{arith}
use mathlib.Core.Bool.{Bool}
use mathlib.Core.Path.{sym}
use mathlib.Core.Logic.{◌↔◌, ◌⊎◌, inl, inr, ⊎_elim}
use mathlib.Core.List.{List, [], ◌∷◌}
use Rattle.basics.specs.Refusals.{Test, test}
use Rattle.basics.proofs.Order.{OneApplies, one_of_three, none_has}
use Rattle.file.specs.Layout.{layout_tests}
use Rattle.file.proofs.Reasons.{layout_reasons, layout_small}
use Rattle.table.specs.Tests.{entry_tests}
use Rattle.table.proofs.Reasons.{entry_reasons, entry_small}
use Rattle.record.specs.Layout.{record_layout, heads, seconds}
use Rattle.record.specs.Answer.{goal_outside, statement_outside, tests_to7}
use Rattle.record.specs.Reasons.{Reason, layout_broken, table_broken, goal_outside as goal_outside_reason, statement_outside as statement_outside_reason, list_short, stops}
use Rattle.record.specs.Promises.{KeepsExactly}
use Rattle.record.proofs.LayoutIs.{ranges_are}
use Rattle.record.proofs.Keeps.{none_to_7}
use Rattle.record.proofs.Reasons.{stop_small, six, seven}

module _ (speaks : ℕ → ℕ → Bool) (file : List ℕ) (room number p : ℕ) where
  abbrev six_seven : List Test
  six_seven = test 6 (goal_outside file) ∷ test 7 (statement_outside file) ∷ []

  joined :
      OneApplies (tests_to7 file) number p
      ↔ (OneApplies (layout_tests record_layout file) number p
      ⊎ (OneApplies (entry_tests (heads file) (seconds file)) number p ⊎ OneApplies six_seven number p))
  joined = one_of_three (layout_tests record_layout file) (entry_tests (heads file) (seconds file)) six_seven number p

  -- A reason with a number of 7 or less is one of these tests,
  to_test : number ≤ 7 → Reason speaks file room number p → OneApplies (tests_to7 file) number p
  to_test few (layout_broken r) = joined.1 (inl ((layout_reasons record_layout file (ranges_are file) number p).0 r))
  to_test few (table_broken r) = joined.1 (inr (inl ((entry_reasons (heads file) (seconds file) number p).0 r)))
  to_test few (goal_outside_reason n z l) = joined.1 (inr (inr (inl (sym n, (six speaks file room number p).1 (z, l)))))
  to_test few (statement_outside_reason n is) =
      joined.1 (inr (inr (inr (inl (sym n, (seven speaks file room number p).1 is)))))
  to_test few (list_short n z l) = absurd (omega arith)
  to_test few (stops s) = let (least, most, within) = stop_small speaks file number p s in absurd (omega arith)

  -- and each of these tests is such a reason.
  from_layout : OneApplies (layout_tests record_layout file) number p → (number ≤ 7) × Reason speaks file room number p
  from_layout one =
      let r = (layout_reasons record_layout file (ranges_are file) number p).1 one in
      let (least, most, z) = layout_small r in
      (omega arith, layout_broken r)

  from_table : OneApplies (entry_tests (heads file) (seconds file)) number p → (number ≤ 7)
      × Reason speaks file room number p
  from_table one =
      let r = (entry_reasons (heads file) (seconds file) number p).1 one in
      let (least, most, within) = entry_small (heads file) (seconds file) number p r in
      (omega arith, table_broken r)

  from_six_seven : OneApplies six_seven number p → (number ≤ 7) × Reason speaks file room number p
  from_six_seven (inl (n, at)) = let (z, l) =
      (six speaks file room number p).0 at in (omega arith, goal_outside_reason (sym n) z l)
  from_six_seven (inr (inl (n, at))) = (omega arith, statement_outside_reason (sym n) ((seven speaks file room number p).0 at))
  from_six_seven (inr (inr none)) = absurd none

  from_test : OneApplies (tests_to7 file) number p → (number ≤ 7) × Reason speaks file room number p
  from_test one = ⊎_elim from_layout (⊎_elim from_table from_six_seven) (joined.0 one)

  pub reasons_to_7 : ((number ≤ 7) × Reason speaks file room number p) ↔ OneApplies (tests_to7 file) number p
  reasons_to_7 = (λ (few, r). to_test few r, from_test)

pub keeps_exactly : (speaks : ℕ → ℕ → Bool) → KeepsExactly speaks
keeps_exactly speaks file room =
    let (keeps, none) = none_to_7 file in
    let (has, has_none) = none_has (tests_to7 file) in (
      λ k number p few r. has (none k) number p (to_test speaks file room number p few r),
      λ no_reason.
          keeps
          (has_none (λ number p one. let (few, r) =
          from_test speaks file room number p one in no_reason number p few r)),
    )
