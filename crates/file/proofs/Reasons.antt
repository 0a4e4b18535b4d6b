-- The reasons of 1 to 3 (specs/Reasons.antt) are these tests, where they apply. Assumes nothing.
use Prim.Native.Nat.{ℕ, ◌≤◌, ◌<◌}
use native.Mathlib.Omega.{arith}
use mathlib.Core.Bool.{not}
use mathlib.Core.Path.{◌≡◌, sym}
use mathlib.Core.Logic.Iff
use mathlib.Core.Logic.{◌↔◌, inl, inr}
use mathlib.Core.List.{List}
use lib.ListN.{length}
use lib.Dec.{eqb, ltb}
use Rattle.basics.specs.Place.{At}
use Rattle.basics.specs.Refusals.{at0}
use Rattle.basics.proofs.Asked.{less, equal, other, at0_at}
use Rattle.basics.proofs.Order.{OneApplies}
use Rattle.file.specs.Layout.{Layout, bytes, least_bytes, in_range, layout_tests, AllFit}
use Rattle.file.specs.Reasons.{LayoutReason, too_few_bytes, size_outside, other_length}
use Rattle.file.proofs.LayoutLaws.{in_range_lem}

module _ (layout : Layout) (file : List ℕ) {InRange : Type 0} (named : AllFit layout.fields file 0 ↔ InRange) (number p : ℕ) where
  one : at0 (ltb (length file) (least_bytes layout)) ≡ At p ↔ ((p ≡ 0) × (length file < least_bytes layout))
  one = at0_at _ p (less (length file) (least_bytes layout))

  two : at0 (not (in_range layout file)) ≡ At p ↔ ((p ≡ 0) × ¬ InRange)
  two = at0_at _ p (other _ (Iff.trans (in_range_lem layout file) named))

  three : at0 (not (eqb (length file) (bytes layout file))) ≡ At p ↔ ((p ≡ 0) × ¬ (length file ≡ bytes layout file))
  three = at0_at _ p (other _ (equal (length file) (bytes layout file)))

  from_reason : LayoutReason layout InRange file number p → OneApplies (layout_tests layout file) number p
  from_reason (too_few_bytes n z l) = inl (sym n, one.1 (z, l))
  from_reason (size_outside n z outside) = inr (inl (sym n, two.1 (z, outside)))
  from_reason (other_length n z differs) = inr (inr (inl (sym n, three.1 (z, differs))))

  to_reason : OneApplies (layout_tests layout file) number p → LayoutReason layout InRange file number p
  to_reason (inl (n, at)) = let (z, l) = one.0 at in too_few_bytes (sym n) z l
  to_reason (inr (inl (n, at))) = let (z, outside) = two.0 at in size_outside (sym n) z outside
  to_reason (inr (inr (inl (n, at)))) = let (z, differs) = three.0 at in other_length (sym n) z differs
  to_reason (inr (inr (inr none))) = absurd none

  pub layout_reasons : LayoutReason layout InRange file number p ↔ OneApplies (layout_tests layout file) number p
  layout_reasons = (from_reason, to_reason)

-- The place is 0.
pub layout_small : {layout : Layout} {InRange : Type 0} {file : List ℕ} {number p : ℕ} → LayoutReason layout InRange file number p
    → (1 ≤ number) × (number ≤ 3) × (p ≡ 0)
layout_small (too_few_bytes n z l) = (omega arith, omega arith, z)
layout_small (size_outside n z outside) = (omega arith, omega arith, z)
layout_small (other_length n z differs) = (omega arith, omega arith, z)
