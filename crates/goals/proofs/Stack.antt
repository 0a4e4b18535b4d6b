-- The goals that wait, as a list, the last that was put there first: laws of putting one there and of taking it.
-- Assumes nothing.
use Prim.Native.Nat.{ℕ, zero, suc, ◌+◌, ◌-◌, ◌≤◌, ◌<◌}
use native.Mathlib.Omega.{arith}
use native.Mathlib.Numerals.{add-one}
use mathlib.Core.Path.{◌≡◌, refl, ap, ap₂}
use mathlib.Core.List.{List, [], ◌∷◌}
use lib.ListN.{length, get_or, set}
use lib.Seq.{get_or-set_same, get_or-set_other}
use Rattle.goals.specs.declared.kept.Kept.{Kept}
use Rattle.goals.specs.Goals.{kept}

-- what stands at a place, anything past the end
abbrev pub at : List Kept → ℕ → Kept
at ks i = get_or ks i (kept 0 0)

-- the first goals of an array, as many as are counted
unfoldable pub waiting : List Kept → ℕ → List Kept
waiting ks zero = []
waiting ks (suc count) = at ks count ∷ waiting ks count

pub waiting_length : (ks : List Kept) (count : ℕ) → length (waiting ks count) ≡ count
unfolding waiting
waiting_length ks zero = refl
waiting_length ks (suc count) = ap suc (waiting_length ks count)

-- What is stored past them changes none.
stored_past : (ks : List Kept) (count i : ℕ) (k : Kept) → count ≤ i → waiting (set ks i k) count ≡ waiting ks count
unfolding waiting
stored_past ks zero i k l = refl
stored_past ks (suc count) i k l =
    ap₂ (λ (k : Kept) (ks : List Kept). k ∷ ks) (get_or-set_other ks i count k (kept 0 0) (omega arith))
    (stored_past ks count i k (omega arith))

pub pushed : (ks : List Kept) (count : ℕ) (k : Kept) → count < length ks
    → waiting (set ks count k) (count + 1) ≡ k ∷ waiting ks count
unfolding waiting
pushed ks count k l =
    let below = stored_past ks count count k (omega arith) in
    rw (add-one count, get_or-set_same ks count k (kept 0 0) l, below)

pub popped : (ks : List Kept) (count : ℕ) → 0 < count → waiting ks count ≡ at ks (count - 1) ∷ waiting ks (count - 1)
unfolding waiting
popped ks zero l = absurd (omega arith)
popped ks (suc count) l = let z : suc count - 1 ≡ count = omega arith in rw z
