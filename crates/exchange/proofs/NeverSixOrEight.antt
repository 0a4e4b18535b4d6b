-- No reason has the number 6 or 8 (specs/Promises.antt, `NeverSixOrEight`). Assumes nothing.
use Prim.Native.Nat.{ℕ}
use native.Mathlib.Omega.{arith}
use mathlib.Core.Bool.{Bool}
use mathlib.Core.Path.{◌≡◌, refl}
use mathlib.Core.List.{List}
use Rattle.file.proofs.Reasons.{layout_small}
use Rattle.table.proofs.Reasons.{entry_small}
use Rattle.exchange.specs.Layout.{heads, seconds}
use Rattle.exchange.specs.Reasons.{Reason, layout_broken, table_broken, statement_outside, stops}
use Rattle.exchange.specs.Promises.{NeverSixOrEight}
use Rattle.exchange.proofs.Reasons.{stop_small, refused_exactly}

module _ (speaks : ℕ → ℕ → Bool) (file : List ℕ) (number p : ℕ) where
  -- No reason has the number 6 or 8.
  other_number : Reason speaks file number p → (¬ (number ≡ 6)) × (¬ (number ≡ 8))
  other_number (layout_broken r) =
      let (least, most, z) = layout_small r in
      (λ e. omega arith, λ e. omega arith)
  other_number (table_broken r) =
      let (least, most, within) = entry_small (heads file) (seconds file) number p r in
      (λ e. omega arith, λ e. omega arith)
  other_number (statement_outside n is) = (λ e. omega arith, λ e. omega arith)
  other_number (stops s) =
      let (least, most, within) = stop_small speaks file number p s in
      (λ e. omega arith, λ e. omega arith)

pub never_six_or_eight : (speaks : ℕ → ℕ → Bool) → NeverSixOrEight speaks
never_six_or_eight speaks file p = (
  λ e. (other_number speaks file 6 p ((refused_exactly speaks file 6 p).0 e).applies).0 refl,
  λ e. (other_number speaks file 8 p ((refused_exactly speaks file 8 p).0 e).applies).1 refl,
)
