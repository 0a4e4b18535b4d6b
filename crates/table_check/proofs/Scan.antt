-- The faults that tests 4 and 5 look for, as a loop over both arrays finds them. Assumes nothing.
use Prim.Native.Nat.{◌≤◌, ℕ, ◌+◌, ◌<◌}
use native.Mathlib.Numerals.{add-one}
use native.Mathlib.Omega.{arith}
use mathlib.Core.Bool.{Bool, true, false, not, ◌&&◌, true≢false}
use mathlib.Core.List.{List}
use mathlib.Core.Path.{◌≡◌, refl, sym, ap, ◌∙◌}
use lib.Dec.{eqb}
use lib.ListN.{length, get_or}
use borrow.Author.Tests.{eqb-true, eq-eqb}
use Rattle.std.specs.Option.{MatchOption}
use Rattle.basics.specs.Place.{Place, At, Nowhere}
use Rattle.basics.specs.Choice.{pick}
use Rattle.basics.specs.First.{or_else, first, found}
use Rattle.basics.proofs.Choice.{both_true}
use Rattle.basics.proofs.First.{first_place, no_place, found_at, is_found, first_at}
use Rattle.table.specs.Entry.{entry}
use Rattle.table.specs.Tests.{entries, entry_at, well_formed_at, wrong_entry, same, repeated_entry}
use Rattle.table.proofs.Entries.{length_entries, entry_at_lem}
use Rattle.table_check.specs.Index.{is_repeated}

-- A test that can't be true is false.
pub untrue : (b : Bool) → (b ≡ true → ⊥) → b ≡ false
untrue true h = absurd (h refl)
untrue false h = refl

-- No fault is found in one place more exactly when none was, and here is none.
one_more : (p : Place) (b here : Bool) (n : ℕ) → here ≡ not b → (not (found p) && b) ≡ not (found (or_else p (pick here (At n) Nowhere)))
one_more (At i) b here n e = refl
one_more Nowhere true here n e = rw e
one_more Nowhere false here n e = rw e

module _ (hs ss : List ℕ) where
  -- The entry of number i is wrong.
  abbrev pub wrong : ℕ → Bool
  wrong i = not (well_formed_at i (entry_at (entries hs ss) i))

  -- Whether it is, as the loop asks.
  pub judged :
      (i : ℕ) (b : Bool) → i < length hs → i < length ss → b ≡ well_formed_at i (entry (get_or hs i 0) (get_or ss i 0)) → wrong i ≡ not b
  judged i b in_heads in_seconds asked = cc (entry_at_lem hs ss i in_heads in_seconds)

  -- At the end of the table 4 has its answer.
  pub wrong_end : (i : ℕ) → length hs ≡ length ss → i ≡ length hs → first wrong i ≡ wrong_entry (entries hs ss)
  unfolding wrong_entry
  wrong_end i alike end =
      let all : i ≡ length (entries hs ss) = omega (arith, length_entries hs ss) in
      ap (first wrong) all

  -- What the code asks of entry i.
  abbrev pub asked : ℕ → Bool
  asked i = well_formed_at i (entry (get_or hs i 0) (get_or ss i 0))

  -- The first entry of which this is false, or that there is none, is what 4 answers.
  pub wrong_found :
      (r : Place) → length hs ≡ length ss
      → MatchOption r ((k : ℕ) → 0 ≤ k → k < length hs → asked k ≡ true)
      (λ i. (0 ≤ i) × (i < length hs) × (asked i ≡ false) × ((k : ℕ) → 0 ≤ k → k < i → asked k ≡ true))
      → r ≡ wrong_entry (entries hs ss)
  unfolding wrong_entry
  wrong_found (At i) alike (_, inside, here, before) =
      let none = (no_place wrong i).1 (λ k l. judged k true (omega arith) (omega arith) (sym (before k (omega arith) l))) in
      let is = judged i false inside (omega arith) (sym here) in
      sym (first_at wrong (length (entries hs ss)) i none is (omega (arith, length_entries hs ss)))
  wrong_found Nowhere alike all =
      let none = (no_place wrong (length hs)).1 (λ k l. judged k true l (omega arith) (sym (all k (omega arith) l))) in
      sym none ∙ wrong_end (length hs) alike refl

  -- Entry i is well-formed or not, as b says, and `so_far` says that of all before it.
  pub none_wrong_more :
      (i : ℕ) (so_far b : Bool) → so_far ≡ not (found (first wrong i)) → wrong i ≡ not b → (so_far && b) ≡ not (found (first wrong (i + 1)))
  unfolding first
  none_wrong_more i so_far b e asked = rw (e, add-one i) (one_more (first wrong i) b (wrong i) i asked)

  -- Entries with the same head and the same second are the same, and only those.
  pub same_parts : (i j : ℕ) → same hs ss i j ≡ true → (get_or hs i 0 ≡ get_or hs j 0) × (get_or ss i 0 ≡ get_or ss j 0)
  same_parts i j e =
      let (h, s) = (both_true (eqb (get_or hs i 0) (get_or hs j 0)) (eqb (get_or ss i 0) (get_or ss j 0))).0 e in
      (eqb-true _ _ h, eqb-true _ _ s)

  pub same_whole : (i j : ℕ) → get_or hs i 0 ≡ get_or hs j 0 → get_or ss i 0 ≡ get_or ss j 0 → same hs ss i j ≡ true
  same_whole i j h s = (both_true (eqb (get_or hs i 0) (get_or hs j 0)) (eqb (get_or ss i 0) (get_or ss j 0))).1 (eq-eqb _ _ h, eq-eqb _ _ s)

  -- An entry that is the same as an earlier one is repeated, and only such.
  pub earlier_same : (i j : ℕ) → j < i → same hs ss i j ≡ true → is_repeated hs ss i ≡ true
  earlier_same i j l e =
      is_found (first (same hs ss i) i) (λ none. true≢false (sym e ∙ (no_place (same hs ss i) i).0 none j l))

  pub repeats : (i : ℕ) → is_repeated hs ss i ≡ true → (j : ℕ) × (j < i) × (same hs ss i j ≡ true)
  repeats i t =
      let (j, at) = found_at (first (same hs ss i) i) t in
      let is = (first_place (same hs ss i) (λ k. same hs ss i k ≡ true) i (λ k l. (λ e. e, λ e. e)) j).0 at in
      (j, is.within, is.is_fault)

  -- Entry i is repeated and none before it is: 5 answers i.
  pub repeated_at :
      (i : ℕ) → i < length hs → first (is_repeated hs ss) i ≡ Nowhere → is_repeated hs ss i ≡ true → At i ≡ repeated_entry hs ss
  unfolding repeated_entry
  repeated_at i in_heads none here = sym (first_at (is_repeated hs ss) (length hs) i none here in_heads)

  -- None is repeated: 5 finds no fault.
  pub repeated_nowhere : (i : ℕ) → i ≡ length hs → first (is_repeated hs ss) i ≡ Nowhere → Nowhere ≡ repeated_entry hs ss
  unfolding repeated_entry
  repeated_nowhere i end none = cc
