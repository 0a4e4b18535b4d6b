-- Laws of the slots, for the two loops: statements are held one by one, and hypotheses are taken back one by one.
-- Assumes nothing.
use Prim.Native.Nat.{ℕ, zero, suc, ◌+◌, ◌-◌, ◌<◌, ◌≤◌}
use native.Mathlib.Omega.{arith}
use native.Mathlib.Numerals.{add-one, sub-one}
use mathlib.Core.Path.{◌≡◌, refl}
use mathlib.Core.List.{List}
use lib.ListN.{length, get_or, set, drop}
use lib.Seq.{drop-cons, drop-length}
use borrow.Author.Tests.{lt-ltb, le-ltb}
use Rattle.hypotheses.specs.Slots.{half, held_one, count_one, held_all, count_all, unmarked, released_to}

-- The statements from position i on: the one there, then the rest.
pub hold_next : (s : List ℕ) (held : ℕ) (ns : List ℕ) (i : ℕ) → i < length ns
    → let n = get_or ns i 0 in
    (held_all s held (drop i ns) ≡ held_all (held_one s held n) (count_one s held n) (drop (i + 1) ns))
    × (count_all s held (drop i ns) ≡ count_all (held_one s held n) (count_one s held n) (drop (i + 1) ns))
unfolding held_all count_all
hold_next s held ns i l = rw (drop-cons ns i 0, held_all, count_all, add-one i) (refl, refl)

-- No statement is left at the end.
pub hold_end : (s : List ℕ) (held : ℕ) (ns : List ℕ) (i : ℕ) → i ≡ length ns
    → (held_all s held (drop i ns) ≡ s) × (count_all s held (drop i ns) ≡ held)
unfolding held_all count_all
hold_end s held ns i e = rw (e, drop-length) (refl, refl)

-- The hypotheses at the places before i: the last of them, then the rest.
release_next : (s : List ℕ) (from i : ℕ) → from < i
    → released_to s from i ≡ released_to (unmarked s (get_or s (half s + (i - 1)) 0)) from (i - 1)
unfolding released_to
release_next s from zero l = absurd (omega arith)
release_next s from (suc i) l = rw (le-ltb i from (omega arith), sub-one (suc i))

-- The same, by whether the number at the last place has a mark; h is how many marks there are.
module _ (s : List ℕ) (from i : ℕ) {h : ℕ} (halves : half s ≡ h) (l : from < i) where
  pub release_marked : get_or s (h + (i - 1)) 0 < h
      → released_to s from i ≡ released_to (set s (get_or s (h + (i - 1)) 0) 0) from (i - 1)
  release_marked marked = rw (halves, lt-ltb _ _ marked) at (release_next s from i l)

  pub release_unmarked : h ≤ get_or s (h + (i - 1)) 0 → released_to s from i ≡ released_to s from (i - 1)
  release_unmarked other = rw (halves, le-ltb _ _ other) at (release_next s from i l)

-- None is left at the first place.
pub release_end : (s : List ℕ) (from i : ℕ) → i ≤ from → released_to s from i ≡ s
unfolding released_to
release_end s from zero l = refl
release_end s from (suc i) l = rw (lt-ltb i from (omega arith))
