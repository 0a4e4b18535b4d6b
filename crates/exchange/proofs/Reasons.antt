-- The reasons to refuse a file (specs/Reasons.antt) are the tests, where they apply; so a file is refused exactly by
-- the reason that stands first in the checking order (specs/Promises.antt, `RefusedExactly`). Assumes nothing.
use Prim.Native.Nat.{ℕ, ◌≤◌}
use mathlib.Core.Bool.{Bool}
use mathlib.Core.Path.{◌≡◌, refl, sym}
use mathlib.Core.Logic.Iff
use mathlib.Core.Logic.{◌↔◌, ◌⊎◌, inl, inr, ⊎_elim}
use mathlib.Core.List.{List, [], ◌∷◌, ◌++◌}
use lib.ListN.{length, get_or}
use Rattle.basics.specs.Place.{At}
use Rattle.basics.specs.First.{IsFirst}
use Rattle.basics.specs.Limits.{most_depth}
use Rattle.basics.specs.Refusals.{Test, test}
use Rattle.basics.specs.Order.{checking_order}
use Rattle.basics.proofs.Order.{OneApplies, one_of_three, Follows, applying_in, refused_in_order, is_distinct, in_checking_order}
use Rattle.file.specs.Layout.{layout_tests}
use Rattle.file.proofs.Reasons.{layout_reasons}
use Rattle.file.proofs.Outside.{first_outside}
use Rattle.table.specs.Tests.{entry_tests}
use Rattle.table.proofs.Reasons.{entry_reasons}
use Rattle.steps.specs.Verdict as Walk
use Rattle.steps.specs.Run.{walked}
use Rattle.steps.specs.Stops.{Stop}
use Rattle.steps.proofs.Walked.{walked_applies, walked_follows}
use Rattle.steps.proofs.Stops.{refused_where}
use Rattle.steps.proofs.Alike.{refused_in_range}
use Rattle.exchange.specs.Layout.{exchange_layout, formulas, heads, seconds, first_list, second_list, steps, table}
use Rattle.exchange.specs.Answer.{statement_outside, obligations_of, tests, step_verdict}
use Rattle.exchange.specs.Reasons.{Reason, layout_broken, table_broken, statement_outside as statement_outside_reason, stops}
use Rattle.exchange.specs.Promises.{RefusedExactly}
use Rattle.exchange.proofs.LayoutIs.{ranges_are}
use Rattle.exchange.proofs.Answered.{answer_refused}

-- ---- 9 to 15

module _ (speaks : ℕ → ℕ → Bool) (file : List ℕ) (number p : ℕ) where
  -- The machine refuses where the walk stops,
  walk_stops : step_verdict speaks file ≡ Walk.Refused number p
      ↔ Stop speaks most_depth (table file) (steps file) (obligations_of file) number p
  walk_stops = refused_where speaks most_depth (table file) (steps file) (obligations_of file) number p

  -- by 9 to 15.
  step_number : step_verdict speaks file ≡ Walk.Refused number p → (9 ≤ number) × (number ≤ 15)
      × (p ≤ length (steps file))
  step_number = refused_in_range speaks most_depth (table file) (steps file) (obligations_of file) number p

  pub stop_small : Stop speaks most_depth (table file) (steps file) (obligations_of file) number p → (9 ≤ number)
      × (number ≤ 15) × (p ≤ length (steps file))
  stop_small s = step_number (walk_stops.1 s)

-- ---- all of them

module _ (speaks : ℕ → ℕ → Bool) (file : List ℕ) (number p : ℕ) where
  pub seven : statement_outside file ≡ At p
      ↔ IsFirst (λ i. formulas file ≤ get_or (first_list file ++ second_list file) i 0)
      (length (first_list file ++ second_list file)) p
  seven = first_outside (formulas file) (first_list file ++ second_list file) p

  -- the tests from 7 on, and all
  abbrev from_7 : List Test
  from_7 = test 7 (statement_outside file) ∷ walked (step_verdict speaks file) ∷ []

  joined :
      OneApplies (tests speaks file) number p
      ↔ (OneApplies (layout_tests exchange_layout file) number p ⊎ (OneApplies (entry_tests (heads file) (seconds file)) number p ⊎ OneApplies from_7 number p))
  joined = one_of_three (layout_tests exchange_layout file) (entry_tests (heads file) (seconds file)) from_7 number p

  later : OneApplies from_7 number p → OneApplies (tests speaks file) number p
  later one = joined.1 (inr (inr one))

  from_reason : Reason speaks file number p → OneApplies (tests speaks file) number p
  from_reason (layout_broken r) = joined.1 (inl ((layout_reasons exchange_layout file (ranges_are file) number p).0 r))
  from_reason (table_broken r) = joined.1 (inr (inl ((entry_reasons (heads file) (seconds file) number p).0 r)))
  from_reason (statement_outside_reason n is) = later (inl (sym n, seven.1 is))
  from_reason (stops s) =
      later (inr ((walked_applies (step_verdict speaks file) number p).1 ((walk_stops speaks file number p).1 s)))

  from_7_reason : OneApplies from_7 number p → Reason speaks file number p
  from_7_reason (inl (n, at)) = statement_outside_reason (sym n) (seven.0 at)
  from_7_reason (inr walk) =
      stops ((walk_stops speaks file number p).0 ((walked_applies (step_verdict speaks file) number p).0 walk))

  to_reason : OneApplies (tests speaks file) number p → Reason speaks file number p
  to_reason one =
      ⊎_elim (λ h. layout_broken ((layout_reasons exchange_layout file (ranges_are file) number p).1 h))
      (⊎_elim (λ h. table_broken ((entry_reasons (heads file) (seconds file) number p).1 h)) from_7_reason)
      (joined.0 one)

  reasons : Reason speaks file number p ↔ OneApplies (tests speaks file) number p
  reasons = (from_reason, to_reason)

-- The tests stand in the checking order, where 6 and 8 are passed over.
follows : (speaks : ℕ → ℕ → Bool) (file : List ℕ) → Follows checking_order (tests speaks file)
follows speaks file =
    let range : (n p : ℕ) → step_verdict speaks file ≡ Walk.Refused n p → (9 ≤ n) × (n ≤ 15) =
    λ n p e. let (l, m, _) = step_number speaks file n p e in (l, m) in
    let from_9 = walked_follows (step_verdict speaks file) range (8 ∷ []) [] tt in
    inl (refl, inl (refl, inl (refl, inl (refl, inl (refl, inr (inl (refl, from_9)))))))

-- A reason's number is one of it: 1 to 15.
pub reason_range : (speaks : ℕ → ℕ → Bool) (file : List ℕ) (number p : ℕ) → Reason speaks file number p → (1 ≤ number)
    × (number ≤ 15)
reason_range speaks file number p r =
    in_checking_order number
    (applying_in checking_order (tests speaks file) number p (follows speaks file) (from_reason speaks file number p r))

pub refused_exactly : (speaks : ℕ → ℕ → Bool) → RefusedExactly speaks
refused_exactly speaks file number p =
    Iff.trans (answer_refused speaks file number p)
    (refused_in_order checking_order is_distinct (tests speaks file) (follows speaks file) (Reason speaks file)
    (reasons speaks file) number p)
