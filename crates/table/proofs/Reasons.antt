-- What tests 4 and 5 find of an entry, and that the reasons of 4 and 5 (specs/Reasons.antt) are these tests, where they
-- apply. Assumes nothing.
use Prim.Native.Nat.{ℕ, zero, suc, ◌≤◌, ◌<◌}
use native.Mathlib.Omega.{arith}
use mathlib.Core.Bool.{true, false, not, true≢false}
use mathlib.Core.Path.{◌≡◌, refl, sym, ap, ◌∙◌}
use mathlib.Core.Logic.Iff
use mathlib.Core.Logic.{◌↔◌, ◌⊎◌, inl, inr, ⊎_elim}
use mathlib.Core.List.{List}
use lib.ListN.{length, get_or}
use lib.Dec.{eqb, ltb}
use borrow.Author.Tests.{eqb-true, eqb-false, ltb-false, le-ltb, not-true}
use Rattle.basics.specs.Place.{At}
use Rattle.basics.specs.Choice.{both}
use Rattle.basics.specs.First.{first, found, IsFirst}
use Rattle.basics.specs.Word.{upper, lower}
use Rattle.basics.proofs.Choice.{both_true, both_false, pick_cases}
use Rattle.basics.proofs.First.{first_place, no_place, found_at, is_found}
use Rattle.basics.proofs.Asked.{equal, both_are}
use Rattle.basics.proofs.Order.{OneApplies}
use Rattle.table.specs.declared.entry.Entry.{Entry}
use Rattle.table.specs.declared.entry.Entry.TheVariants.{IllFormed}
use Rattle.table.specs.Entry.{kinds, entry}
use Rattle.table.specs.Tests.{entries, entry_at, well_formed_at, same, wrong_entry, repeated_entry, entry_tests}
use Rattle.table.specs.Reasons.{WrongEntry, no_kind, atom_second, false_first, false_second, WrongExactly, first_not_lower, second_not_lower, Repeats, RepeatsExactly, EntryReason, wrong_entry as wrong_entry_reason, repeated_entry as repeated_entry_reason}
use Rattle.table.proofs.Entries.{length_entries, entry_at_lem}

-- ---- 4, of an entry

module _ (i head second : ℕ) where
  abbrev Wrong : Type 0
  Wrong = WrongEntry i head second

  -- what the test finds of an entry of this head and second is that it is wrong
  abbrev Finds : Entry → Type 0
  Finds e = well_formed_at i e ≡ false ↔ Wrong

  -- an entry that is found right is to be none that is wrong, and one that is found wrong is to be wrong
  right : ¬ Wrong → true ≡ false ↔ Wrong
  right none = (λ e. absurd (true≢false e), λ w. absurd (none w))

  wrong : Wrong → false ≡ false ↔ Wrong
  wrong is = (λ e. is, λ w. refl)

  -- an atom whose second is 0 is not wrong, and false with both 0 is not
  atom_right : upper head ≡ 0 → second ≡ 0 → ¬ Wrong
  atom_right is z (no_kind k) = omega arith
  atom_right is z (atom_second k other) = other z
  atom_right is z (false_first k other) = omega arith
  atom_right is z (false_second k other) = omega arith
  atom_right is z (first_not_lower k k' l) = omega arith
  atom_right is z (second_not_lower k k' l) = omega arith

  false_right : upper head ≡ 1 → lower head ≡ 0 → second ≡ 0 → ¬ Wrong
  false_right is y z (no_kind k) = omega arith
  false_right is y z (atom_second k other) = omega arith
  false_right is y z (false_first k other) = other y
  false_right is y z (false_second k other) = other z
  false_right is y z (first_not_lower k k' l) = omega arith
  false_right is y z (second_not_lower k k' l) = omega arith

  -- with two formulas as operands, either may be at fault
  found_two : 2 ≤ upper head → upper head ≤ 4 → (ltb (lower head) i ≡ false) ⊎ (ltb second i ≡ false) → Wrong
  found_two least most (inl e) = let l = ltb-false (lower head) i e in first_not_lower least most (omega arith)
  found_two least most (inr e) = let l = ltb-false second i e in second_not_lower least (omega arith) (omega arith)

  of_two : 2 ≤ upper head → upper head ≤ 4 → Wrong → (ltb (lower head) i ≡ false) ⊎ (ltb second i ≡ false)
  of_two least most (no_kind k) = absurd (omega arith)
  of_two least most (atom_second k other) = absurd (omega arith)
  of_two least most (false_first k other) = absurd (omega arith)
  of_two least most (false_second k other) = absurd (omega arith)
  of_two least most (first_not_lower k k' l) = inl (le-ltb (lower head) i (omega arith))
  of_two least most (second_not_lower k k' l) = inr (le-ltb second i (omega arith))

  two : 2 ≤ upper head → upper head ≤ 4 → both (ltb (lower head) i) (ltb second i) ≡ false ↔ Wrong
  two least most = Iff.trans (both_false (ltb (lower head) i) (ltb second i)) (found_two least most, of_two least most)

  -- and in what a principal says the second alone
  found_one : upper head ≡ 5 → ltb second i ≡ false → Wrong
  found_one is e = let l = ltb-false second i e in second_not_lower (omega arith) (omega arith) (omega arith)

  of_one : upper head ≡ 5 → Wrong → ltb second i ≡ false
  of_one is (no_kind k) = absurd (omega arith)
  of_one is (atom_second k other) = absurd (omega arith)
  of_one is (false_first k other) = absurd (omega arith)
  of_one is (false_second k other) = absurd (omega arith)
  of_one is (first_not_lower k k' l) = absurd (omega arith)
  of_one is (second_not_lower k k' l) = le-ltb second i (omega arith)

  -- kind by kind, in the order of `kinds`
  by_kind_lem : (kind : ℕ) → upper head ≡ kind → Finds (get_or (kinds (lower head) second) kind IllFormed)
  by_kind_lem zero is =
      pick_cases Finds (eqb second 0)
      (λ t. right (atom_right is (eqb-true _ _ t)))
      (λ t. wrong (atom_second is (eqb-false _ _ t)))
  by_kind_lem (suc zero) is =
      pick_cases Finds (both (eqb (lower head) 0) (eqb second 0))
      (λ t. let (y, z) = (both_true _ _).0 t in right (false_right is (eqb-true _ _ y) (eqb-true _ _ z)))
      (λ t.
      wrong
      (⊎_elim (λ e. false_first is (eqb-false _ _ e)) (λ e. false_second is (eqb-false _ _ e)) ((both_false _ _).0 t)))
  by_kind_lem (suc (suc zero)) is = two (omega arith) (omega arith)
  by_kind_lem (suc (suc (suc zero))) is = two (omega arith) (omega arith)
  by_kind_lem (suc (suc (suc (suc zero)))) is = two (omega arith) (omega arith)
  by_kind_lem (suc (suc (suc (suc (suc zero))))) is = (found_one is, of_one is)
  by_kind_lem (suc (suc (suc (suc (suc (suc kind)))))) is = wrong (no_kind (omega arith))

pub wrong_exactly : WrongExactly
unfolding entry
wrong_exactly i head second = by_kind_lem i head second (upper head) refl

-- ---- 5, of an entry

module _ (hs ss : List ℕ) (p : ℕ) where
  -- entry p has the head and second of entry j
  abbrev Same : ℕ → Type 0
  Same j = (get_or hs p 0 ≡ get_or hs j 0) × (get_or ss p 0 ≡ get_or ss j 0)

  same_is : (j : ℕ) → same hs ss p j ≡ true ↔ Same j
  same_is j = both_are (equal (get_or hs p 0) (get_or hs j 0)) (equal (get_or ss p 0) (get_or ss j 0))

  then_repeats : found (first (same hs ss p) p) ≡ true → Repeats hs ss p
  then_repeats e =
      let (j, at) = found_at (first (same hs ss p) p) e in
      let is = (first_place (same hs ss p) Same p (λ k l. same_is k) j).0 at in
      let (h, s) = is.is_fault in
      record { earlier = j; is_earlier = is.within; same_head = cc; same_second = cc }

  then_found : Repeats hs ss p → found (first (same hs ss p) p) ≡ true
  then_found r =
      is_found (first (same hs ss p) p)
      (λ nowhere.
      let is_same = (same_is r.earlier).1 (r.same_head, r.same_second) in
      true≢false (sym is_same ∙ (no_place (same hs ss p) p).0 nowhere r.earlier r.is_earlier))

pub repeats_exactly : RepeatsExactly
repeats_exactly hs ss p = (then_repeats hs ss p, then_found hs ss p)

-- ---- the reasons

module _ (heads seconds : List ℕ) (number p : ℕ) where
  -- Below both lengths entry i is made of the two words at i.
  wrong_at : (i : ℕ) → i < length (entries heads seconds)
      → not (well_formed_at i (entry_at (entries heads seconds) i)) ≡ true
      ↔ WrongEntry i (get_or heads i 0) (get_or seconds i 0)
  wrong_at i l =
      let many = length_entries heads seconds in
      let is = entry_at_lem heads seconds i (omega arith) (omega arith) in
      let (to, from) = wrong_exactly i (get_or heads i 0) (get_or seconds i 0) in
      (λ e. to (sym (ap (well_formed_at i) is) ∙ not-true _ e), λ w. ap not (ap (well_formed_at i) is ∙ from w))

  four : wrong_entry (entries heads seconds) ≡ At p
      ↔ IsFirst (λ i. WrongEntry i (get_or heads i 0) (get_or seconds i 0)) (length (entries heads seconds)) p
  unfolding wrong_entry
  four =
      first_place (λ i. not (well_formed_at i (entry_at (entries heads seconds) i)))
      (λ i. WrongEntry i (get_or heads i 0) (get_or seconds i 0))
      (length (entries heads seconds))
      wrong_at p

  five : repeated_entry heads seconds ≡ At p ↔ IsFirst (Repeats heads seconds) (length heads) p
  unfolding repeated_entry
  five =
      first_place (λ i. found (first (same heads seconds i) i)) (Repeats heads seconds) (length heads)
      (λ i l. repeats_exactly heads seconds i) p

  from_reason : EntryReason heads seconds number p → OneApplies (entry_tests heads seconds) number p
  from_reason (wrong_entry_reason n is) = inl (sym n, four.1 is)
  from_reason (repeated_entry_reason n is) = inr (inl (sym n, five.1 is))

  to_reason : OneApplies (entry_tests heads seconds) number p → EntryReason heads seconds number p
  to_reason (inl (n, at)) = wrong_entry_reason (sym n) (four.0 at)
  to_reason (inr (inl (n, at))) = repeated_entry_reason (sym n) (five.0 at)
  to_reason (inr (inr none)) = absurd none

  pub entry_reasons : EntryReason heads seconds number p ↔ OneApplies (entry_tests heads seconds) number p
  entry_reasons = (from_reason, to_reason)

  -- The place is an entry's.
  pub entry_small : EntryReason heads seconds number p → (4 ≤ number) × (number ≤ 5) × (p < length heads)
  entry_small (wrong_entry_reason n is) = let l = is.within in (omega arith, omega arith, omega (arith, length_entries heads seconds))
  entry_small (repeated_entry_reason n is) = (omega arith, omega arith, is.within)
