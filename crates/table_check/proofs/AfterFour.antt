-- What tests 2 and 4 leave for 5. Assumes nothing.
use Prim.Native.Nat.{ℕ, ◌<◌, ◌≤◌}
use native.Mathlib.Omega.{arith}
use mathlib.Core.Bool.{true}
use mathlib.Core.List.{List}
use mathlib.Core.Path.{◌≡◌, refl, sym, ◌∙◌}
use lib.Dec.{ltb}
use lib.ListN.{length, get_or}
use borrow.Author.Tests.{ltb-true, not-false}
use Rattle.basics.specs.Place.{Nowhere}
use Rattle.basics.specs.Limits.{most_formulas}
use Rattle.basics.specs.Word.{upper, lower}
use Rattle.basics.proofs.Choice.{both_true, pick_cases}
use Rattle.basics.proofs.First.{no_place}
use Rattle.table.specs.Entry.{entry}
use Rattle.table.specs.Tests.{entries, well_formed_at, wrong_entry}
use Rattle.table_check.specs.Bounds.{first_bound, second_bound}
use Rattle.table_check.specs.Chains.{AfterFour}
use Rattle.table_check.proofs.Bounds.{bounded}
use Rattle.table_check.proofs.Scan.{wrong, judged, wrong_end}

-- A second below its bound is that of one of six kinds, and is 0 or a number lower than i.
six_kinds : (kind i second : ℕ) → second < second_bound kind i → (kind < 6) × (second ≤ i)
six_kinds kind i second =
    pick_cases (λ b. second < b → (kind < 6) × (second ≤ i)) (ltb kind 2)
    (λ t l. (omega (arith, ltb-true kind 2 t), omega arith))
    (λ t.
    pick_cases (λ b. second < b → (kind < 6) × (second ≤ i)) (ltb kind 6)
    (λ u l. (ltb-true kind 6 u, omega arith))
    (λ u l. absurd (omega arith)))

module _ (hs ss : List ℕ) (alike : length hs ≡ length ss) (few : length hs ≤ most_formulas)
    (passed : wrong_entry (entries hs ss) ≡ Nowhere) where
  -- 4 passed each entry.
  well_formed : (i : ℕ) → i < length hs → well_formed_at i (entry (get_or hs i 0) (get_or ss i 0)) ≡ true
  well_formed i l =
      let none = wrong_end hs ss (length hs) alike refl ∙ passed in
      not-false (well_formed_at i (entry (get_or hs i 0) (get_or ss i 0)))
      (sym (judged hs ss i (well_formed_at i (entry (get_or hs i 0) (get_or ss i 0))) l (omega arith) refl) ∙ (no_place (wrong hs ss) (length hs)).0 none i l)

  low : (i : ℕ) → i < length hs → (upper (get_or hs i 0) < 6) × (get_or ss i 0 ≤ i)
  low i l =
      let head = get_or hs i 0 in
      let second = get_or ss i 0 in
      let (one, two) =
      (both_true (ltb (lower head) (first_bound (upper head) i)) (ltb second (second_bound (upper head) i))).0
      (bounded i head second ∙ well_formed i l) in
      six_kinds (upper head) i second (ltb-true _ _ two)

  pub after_four : AfterFour hs ss
  after_four =
      record {
        alike = alike;
        few = few;
        low_heads = λ i l. omega (arith, (low i l).0);
        low_seconds = λ i l. omega (arith, (low i l).1);
      }
