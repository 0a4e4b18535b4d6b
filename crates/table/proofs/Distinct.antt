-- What test 5 gives, where test 4 found nothing: no two numbers have the same entry. Assumes nothing.
use Prim.Native.Nat.{ℕ, ◌<◌}
use native.Mathlib.Omega.{arith}
use mathlib.Core.Bool.{false, true≢false}
use mathlib.Core.Path.{◌≡◌, sym, ◌∙◌}
use mathlib.Core.List.{List}
use lib.ListN.{length}
use borrow.Author.Tests.{eq-eqb}
use Rattle.basics.specs.Place.{Nowhere}
use Rattle.basics.specs.First.{first, found}
use Rattle.basics.proofs.Choice.{both_true}
use Rattle.basics.proofs.First.{no_place, not_found}
use Rattle.table.specs.Tests.{entries, entry_at, same, repeated_entry}
use Rattle.table.specs.Laws.{Ordered, NoFaultDistinct}
use Rattle.table.proofs.Entries.{length_entries_equal, entry_at_lem, entry_fixes}
use Rattle.table.proofs.Ordered.{well_formed}

module _ (hs ss : List ℕ) (sizes : length hs ≡ length ss) (ordered : Ordered (entries hs ss)) (none : repeated_entry hs ss ≡ Nowhere) where
  -- no position has the head and second of an earlier one
  not_same : (i j : ℕ) → i < length hs → j < i → same hs ss i j ≡ false
  unfolding repeated_entry
  not_same i j l before =
      let nowhere = (no_place (λ k. found (first (same hs ss k) k)) (length hs)).0 none i l in
      (no_place (same hs ss i) i).0 (not_found (first (same hs ss i) i) nowhere) j before

  -- so no number has the entry of an earlier one
  not_earlier : (i j : ℕ) → i < length (entries hs ss) → entry_at (entries hs ss) i ≡ entry_at (entries hs ss) j → ¬ (j < i)
  not_earlier i j l e before =
      let i-in : i < length hs = omega (arith, length_entries_equal hs ss sizes) in
      let j-in : j < length hs = omega arith in
      let i-is = entry_at_lem hs ss i i-in (omega arith) in
      let j-is = entry_at_lem hs ss j j-in (omega arith) in
      let (heads, seconds) = entry_fixes _ _ _ _ (sym i-is ∙ e ∙ j-is) (λ f. well_formed (entries hs ss) ordered i l (i-is ∙ f)) in
      let is_same = (both_true _ _).1 (eq-eqb _ _ heads, eq-eqb _ _ seconds) in
      true≢false (sym is_same ∙ not_same i j i-in before)

pub no_fault_distinct : NoFaultDistinct
no_fault_distinct hs ss sizes ordered none i j l m e =
    omega (arith, not_earlier hs ss sizes ordered none i j l e, not_earlier hs ss sizes ordered none j i m (sym e))
