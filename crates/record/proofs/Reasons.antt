-- The reasons to refuse a file (specs/Reasons.antt) are the tests, where they apply; so a file is refused exactly by
-- the reason that stands first in the checking order (specs/Promises.antt, `RefusedExactly`). Assumes nothing.
use Prim.Native.Nat.{ℕ, ◌≤◌, ◌<◌}
use mathlib.Core.Bool.{Bool}
use mathlib.Core.Path.{◌≡◌, refl, sym}
use mathlib.Core.Logic.Iff
use mathlib.Core.Logic.{◌↔◌, ◌⊎◌, inl, inr, ⊎_elim}
use mathlib.Core.List.{List, [], ◌∷◌}
use lib.ListN.{length, get_or}
use Rattle.basics.specs.Place.{At}
use Rattle.basics.specs.First.{IsFirst}
use Rattle.basics.specs.Limits.{most_depth}
use Rattle.basics.specs.Refusals.{Test, test}
use Rattle.basics.specs.Order.{checking_order}
use Rattle.basics.proofs.Asked.{less, at_most, at0_at}
use Rattle.basics.proofs.Order.{OneApplies, one_of_three, Follows, applying_in, refused_in_order, is_distinct, in_checking_order}
use Rattle.file.specs.Layout.{layout_tests}
use Rattle.file.proofs.Reasons.{layout_reasons}
use Rattle.file.proofs.Outside.{first_outside}
use Rattle.table.specs.Tests.{entry_tests}
use Rattle.table.proofs.Reasons.{entry_reasons}
use Rattle.steps.specs.Verdict as Walk
use Rattle.steps.specs.Obligation.{obligation}
use Rattle.steps.specs.Run.{walked}
use Rattle.steps.specs.Stops.{Stop}
use Rattle.steps.proofs.Walked.{walked_applies, walked_follows}
use Rattle.steps.proofs.Stops.{refused_where}
use Rattle.steps.proofs.Alike.{refused_in_range}
use Rattle.record.specs.Layout.{record_layout, formulas, goal, heads, seconds, statements, steps, table, signers}
use Rattle.record.specs.Answer.{goal_outside, statement_outside, list_short, tests, step_verdict}
use Rattle.record.specs.Reasons.{Reason, layout_broken, table_broken, goal_outside as goal_outside_reason, statement_outside as statement_outside_reason, stops, list_short as list_short_reason}
use Rattle.record.specs.Promises.{RefusedExactly}
use Rattle.record.proofs.LayoutIs.{ranges_are}
use Rattle.record.proofs.Answered.{answer_refused}

-- ---- 9 to 15

module _ (speaks : ℕ → ℕ → Bool) (file : List ℕ) (number p : ℕ) where
  -- The machine refuses where the walk stops,
  pub walk_stops :
      step_verdict speaks file ≡ Walk.Refused number p
      ↔ Stop speaks most_depth (table file) (steps file) (obligation (statements file) (goal file) ∷ []) number p
  walk_stops = refused_where speaks most_depth (table file) (steps file)
      (obligation (statements file) (goal file) ∷ []) number p

  -- by 9 to 15.
  pub step_number : step_verdict speaks file ≡ Walk.Refused number p → (9 ≤ number) × (number ≤ 15)
      × (p ≤ length (steps file))
  step_number = refused_in_range speaks most_depth (table file) (steps file)
      (obligation (statements file) (goal file) ∷ []) number p

  pub stop_small :
      Stop speaks most_depth (table file) (steps file) (obligation (statements file) (goal file) ∷ []) number p
      → (9 ≤ number) × (number ≤ 15) × (p ≤ length (steps file))
  stop_small s = step_number (walk_stops.1 s)

-- ---- all of them

module _ (speaks : ℕ → ℕ → Bool) (file : List ℕ) (room number p : ℕ) where
  pub six : goal_outside file ≡ At p ↔ ((p ≡ 0) × (formulas file ≤ goal file))
  six = at0_at _ p (at_most (formulas file) (goal file))

  pub seven : statement_outside file ≡ At p
      ↔ IsFirst (λ i. formulas file ≤ get_or (statements file) i 0) (length (statements file)) p
  seven = first_outside (formulas file) (statements file) p

  eight : list_short file room ≡ At p ↔ ((p ≡ 0) × (room < length (signers file)))
  eight = at0_at _ p (less room (length (signers file)))

  -- the tests from 6 on, and all
  abbrev from_6 : List Test
  from_6 =
      test 6 (goal_outside file)
      ∷ test 7 (statement_outside file)
      ∷ walked (step_verdict speaks file)
      ∷ test 8 (list_short file room)
      ∷ []

  joined :
      OneApplies (tests speaks file room) number p
      ↔ (OneApplies (layout_tests record_layout file) number p ⊎ (OneApplies (entry_tests (heads file) (seconds file)) number p ⊎ OneApplies from_6 number p))
  joined = one_of_three (layout_tests record_layout file) (entry_tests (heads file) (seconds file)) from_6 number p

  later : OneApplies from_6 number p → OneApplies (tests speaks file room) number p
  later one = joined.1 (inr (inr one))

  from_reason : Reason speaks file room number p → OneApplies (tests speaks file room) number p
  from_reason (layout_broken r) = joined.1 (inl ((layout_reasons record_layout file (ranges_are file) number p).0 r))
  from_reason (table_broken r) = joined.1 (inr (inl ((entry_reasons (heads file) (seconds file) number p).0 r)))
  from_reason (goal_outside_reason n z l) = later (inl (sym n, six.1 (z, l)))
  from_reason (statement_outside_reason n is) = later (inr (inl (sym n, seven.1 is)))
  from_reason (stops s) =
      let walk = (walked_applies (step_verdict speaks file) number p).1 ((walk_stops speaks file number p).1 s) in
      later (inr (inr (⊎_elim inl absurd walk)))
  from_reason (list_short_reason n z l) = later (inr (inr (inr (inl (sym n, eight.1 (z, l))))))

  from_6_reason : OneApplies from_6 number p → Reason speaks file room number p
  from_6_reason (inl (n, at)) = let (z, l) = six.0 at in goal_outside_reason (sym n) z l
  from_6_reason (inr (inl (n, at))) = statement_outside_reason (sym n) (seven.0 at)
  from_6_reason (inr (inr (inl walk))) =
      stops ((walk_stops speaks file number p).0 ((walked_applies (step_verdict speaks file) number p).0 (inl walk)))
  from_6_reason (inr (inr (inr (inl (n, at))))) = let (z, l) = eight.0 at in list_short_reason (sym n) z l
  from_6_reason (inr (inr (inr (inr none)))) = absurd none

  to_reason : OneApplies (tests speaks file room) number p → Reason speaks file room number p
  to_reason one =
      ⊎_elim (λ h. layout_broken ((layout_reasons record_layout file (ranges_are file) number p).1 h))
      (⊎_elim (λ h. table_broken ((entry_reasons (heads file) (seconds file) number p).1 h)) from_6_reason)
      (joined.0 one)

  pub reasons : Reason speaks file room number p ↔ OneApplies (tests speaks file room) number p
  reasons = (from_reason, to_reason)

-- The tests stand in the checking order.
follows : (speaks : ℕ → ℕ → Bool) (file : List ℕ) (room : ℕ) → Follows checking_order (tests speaks file room)
follows speaks file room =
    let range : (n p : ℕ) → step_verdict speaks file ≡ Walk.Refused n p → (9 ≤ n) × (n ≤ 15) =
    λ n p e. let (l, m, _) = step_number speaks file n p e in (l, m) in
    let eight = test 8 (list_short file room) ∷ [] in
    let from_9 = walked_follows (step_verdict speaks file) range (8 ∷ []) eight (inl (refl, tt)) in
    inl (refl, inl (refl, inl (refl, inl (refl, inl (refl, inl (refl, inl (refl, from_9)))))))

-- A reason's number is one of it: 1 to 15.
pub reason_range : (speaks : ℕ → ℕ → Bool) (file : List ℕ) (room number p : ℕ) → Reason speaks file room number p
    → (1 ≤ number) × (number ≤ 15)
reason_range speaks file room number p r =
    in_checking_order number
    (applying_in checking_order (tests speaks file room) number p (follows speaks file room)
    (from_reason speaks file room number p r))

pub refused_exactly : (speaks : ℕ → ℕ → Bool) → RefusedExactly speaks
refused_exactly speaks file room number p =
    Iff.trans (answer_refused speaks file room number p)
    (refused_in_order checking_order is_distinct (tests speaks file room) (follows speaks file room)
    (Reason speaks file room) (reasons speaks file room) number p)
