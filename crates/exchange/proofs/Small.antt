-- How large a refusal can be (specs/Promises.antt, `AnswersSmall`). Assumes nothing.
use Prim.Native.Nat.{ℕ, ◌<◌}
use native.Mathlib.Omega.{arith}
use mathlib.Core.Bool.{Bool}
use mathlib.Core.Path.{◌≡◌, refl}
use mathlib.Core.Logic.Iff
use mathlib.Core.List.{List}
use lib.ListN.{length-append}
use Rattle.std.specs.Prelude.{Err}
use Rattle.basics.specs.Order.{FirstReason, checking_order}
use Rattle.basics.proofs.Asked.{settled}
use Rattle.basics.proofs.Order.{lower_before}
use Rattle.file.specs.Reasons.{size_outside}
use Rattle.file.proofs.LayoutLaws as Every
use Rattle.file.proofs.LayoutLaws.{part_most}
use Rattle.file.proofs.Reasons.{layout_small}
use Rattle.table.proofs.Reasons.{entry_small}
use Rattle.exchange.specs.Verdict.{ExchangeVerdict, Equal, Refused}
use Rattle.exchange.specs.Layout.{exchange_layout, heads, seconds, first_list, second_list}
use Rattle.exchange.specs.Answer.{exchange_answer}
use Rattle.exchange.specs.Proofs.{InRange}
use Rattle.exchange.specs.Reasons.{Reason, layout_broken, table_broken, statement_outside, stops}
use Rattle.exchange.specs.Promises.{Small, AnswersSmall}
use Rattle.exchange.proofs.LayoutIs.{ranges_are}
use Rattle.exchange.proofs.Reasons.{stop_small, reason_range, refused_exactly}

module _ (speaks : ℕ → ℕ → Bool) (file : List ℕ) where
  -- A reason after 2 is given of a file whose sizes are in range,
  ranges : (number p : ℕ) → FirstReason checking_order (Reason speaks file) number p → 2 < number → InRange file
  ranges number p r l =
      let (least, most) = reason_range speaks file number p r.applies in
      let two-before = lower_before number 2 most (omega arith) l (λ e. omega arith) in
      settled _ (Iff.trans (Every.in_range_lem exchange_layout file) (ranges_are file)) (λ outside. r.none_before 2 0 two-before (layout_broken (size_outside refl refl outside)))

  -- and a place that isn't 0 is within one of its parts.
  reason_small : (number p : ℕ) → (2 < number → InRange file) → Reason speaks file number p → Small (Refused number p)
  reason_small number p range (layout_broken r) = let (least, most, z) = layout_small r in (omega arith, omega arith, omega arith)
  reason_small number p range (table_broken r) =
      let (least, most, l) = entry_small (heads file) (seconds file) number p r in
      let few = (range (omega arith)).few_formulas in
      (omega arith, omega arith, omega (arith, part_most exchange_layout file 0))
  reason_small number p range (statement_outside n is) =
      let l = is.within in
      let sizes = range (omega arith) in
      let few_first = sizes.few_first in
      let few_second = sizes.few_second in
      let first = part_most exchange_layout file 2 in
      let second = part_most exchange_layout file 3 in
      (omega arith, omega arith, omega (arith, length-append (first_list file) (second_list file)))
  reason_small number p range (stops s) =
      let (above, below, within) = stop_small speaks file number p s in
      let few = (range (omega arith)).few_steps in
      (omega arith, below, omega (arith, part_most exchange_layout file 4))

  small : (v : ExchangeVerdict) → exchange_answer speaks file ≡ v → Small v
  small Equal e = tt
  small (Err r') e =
      let r = (refused_exactly speaks file r'.number r'.place).0 e in
      reason_small r'.number r'.place (ranges r'.number r'.place r) r.applies

pub answers_small : (speaks : ℕ → ℕ → Bool) → AnswersSmall speaks
answers_small speaks file = small speaks file (exchange_answer speaks file) refl
