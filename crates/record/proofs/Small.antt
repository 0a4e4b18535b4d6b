-- How large an answer can be (specs/Promises.antt, `AnswersSmall`). Assumes nothing.
use Prim.Native.Nat.{ℕ, ◌<◌}
use native.Mathlib.Omega.{arith}
use mathlib.Core.Bool.{Bool}
use mathlib.Core.Path.{◌≡◌, refl}
use mathlib.Core.Logic.Iff
use mathlib.Core.List.{List}
use Rattle.std.specs.Prelude.{Err}
use Rattle.basics.specs.Order.{FirstReason, checking_order}
use Rattle.basics.proofs.Asked.{settled}
use Rattle.basics.proofs.Order.{lower_before}
use Rattle.file.specs.Reasons.{size_outside}
use Rattle.file.proofs.LayoutLaws as Every
use Rattle.file.proofs.LayoutLaws.{part_most}
use Rattle.file.proofs.Reasons.{layout_small}
use Rattle.logic.specs.Principals.{Relation}
use Rattle.logic.proofs.Principals.{Decided, decided}
use Rattle.table.proofs.Reasons.{entry_small}
use Rattle.signers.proofs.Joined.{no_more_than_statements}
use Rattle.record.specs.Verdict.{RecordVerdict, Granted, Refused}
use Rattle.record.specs.Layout.{record_layout, heads, seconds, statements, table, says_left_numbers}
use Rattle.record.specs.Answer.{record_answer}
use Rattle.record.specs.Proof.{InRange}
use Rattle.record.specs.Reasons.{Reason, layout_broken, table_broken, goal_outside, statement_outside, list_short, stops}
use Rattle.record.specs.Promises.{GrantSays, Small, AnswersSmall}
use Rattle.record.proofs.LayoutIs.{ranges_are}
use Rattle.record.proofs.Granted.{granted_exactly}
use Rattle.record.proofs.Reasons.{stop_small, reason_range, refused_exactly}

module _ (speaks : ℕ → ℕ → Bool) (file : List ℕ) (room : ℕ) where
  -- There are no more signers than statements.
  grant_small : (R : Relation) (count : ℕ) → GrantSays R file room count → Small (Granted count)
  grant_small R count r =
      let counted = r.counted in
      let few = r.keeps.sized.in_range.few_statements in
      let most = no_more_than_statements (table file) (statements file) (says_left_numbers file) in
      omega (arith, part_most record_layout file 2)

  -- A reason after 2 is given of a file whose sizes are in range,
  ranges : (number p : ℕ) → FirstReason checking_order (Reason speaks file room) number p → 2 < number → InRange file
  ranges number p r l =
      let (least, most) = reason_range speaks file room number p r.applies in
      let two-before = lower_before number 2 most (omega arith) l (λ e. omega arith) in
      settled _ (Iff.trans (Every.in_range_lem record_layout file) (ranges_are file)) (λ outside. r.none_before 2 0 two-before (layout_broken (size_outside refl refl outside)))

  -- and a place that isn't 0 is within one of its parts.
  reason_small : (number p : ℕ) → (2 < number → InRange file) → Reason speaks file room number p
      → Small (Refused number p)
  reason_small number p range (layout_broken r) = let (least, most, z) = layout_small r in (omega arith, omega arith, omega arith)
  reason_small number p range (table_broken r) =
      let (least, most, l) = entry_small (heads file) (seconds file) number p r in
      let few = (range (omega arith)).few_formulas in
      (omega arith, omega arith, omega (arith, part_most record_layout file 0))
  reason_small number p range (goal_outside n z l) = (omega arith, omega arith, omega arith)
  reason_small number p range (statement_outside n is) =
      let l = is.within in
      let few = (range (omega arith)).few_statements in
      (omega arith, omega arith, omega (arith, part_most record_layout file 2))
  reason_small number p range (list_short n z l) = (omega arith, omega arith, omega arith)
  reason_small number p range (stops s) =
      let (above, below, within) = stop_small speaks file number p s in
      let few = (range (omega arith)).few_steps in
      (omega arith, below, omega (arith, part_most record_layout file 3))

  small : (v : RecordVerdict) → record_answer speaks file room ≡ v → Small v
  small (Granted count) e =
      grant_small (Decided speaks) count ((granted_exactly speaks (Decided speaks) (decided speaks) file room count).0 e)
  small (Err r') e =
      let r = (refused_exactly speaks file room r'.number r'.place).0 e in
      reason_small r'.number r'.place (ranges r'.number r'.place r) r.applies

pub answers_small : (speaks : ℕ → ℕ → Bool) → AnswersSmall speaks
answers_small speaks file room = small speaks file room (record_answer speaks file room) refl
