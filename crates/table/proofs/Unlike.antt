-- 5 applies nowhere exactly when no two entries have the same head and second (specs/Laws.antt, `NotRepeated`). Assumes
-- nothing.
use Prim.Native.Nat.{ℕ}
use mathlib.Core.Bool.{false}
use mathlib.Core.Path.{◌≡◌, sym, ap}
use mathlib.Core.Logic.{◌↔◌}
use mathlib.Core.List.{List}
use lib.ListN.{length, get_or}
use Rattle.basics.specs.First.{first, found}
use Rattle.basics.proofs.First.{no_place, not_found}
use Rattle.basics.proofs.Asked.{equal, both_are, not_is}
use Rattle.table.specs.Tests.{same, repeated_entry}
use Rattle.table.specs.Laws.{NotRepeated}

-- Two entries are found to differ exactly when they do in head or second.
differ : (hs ss : List ℕ) (i j : ℕ) → same hs ss j i ≡ false ↔ (¬ ((get_or hs j 0 ≡ get_or hs i 0) × (get_or ss j 0 ≡ get_or ss i 0)))
differ hs ss i j = not_is (same hs ss j i) (both_are (equal (get_or hs j 0) (get_or hs i 0)) (equal (get_or ss j 0) (get_or ss i 0)))

pub not_repeated : NotRepeated
unfolding repeated_entry
not_repeated hs ss =
    let later = no_place (λ j. found (first (same hs ss j) j)) (length hs) in (
      λ none i j before l h s.
          (differ hs ss i j).0 ((no_place (same hs ss j) j).0 (not_found (first (same hs ss j) j) (later.0 none j l)) i before) (sym h, sym s),
      λ none. later.1 (λ j l. ap found ((no_place (same hs ss j) j).1 (λ i before. (differ hs ss i j).1 (λ (h, s). none i j before l (sym h) (sym s))))),
    )
