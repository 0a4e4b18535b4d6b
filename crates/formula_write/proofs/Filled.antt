-- What is written from a place on, and where it ends, as one statement. Assumes nothing.
use Prim.Native.Nat.{ℕ, ◌≤◌}
use native.Mathlib.Omega.{arith}
use mathlib.Core.Path.{◌≡◌, sym, subst}
use mathlib.Core.List.{List, []}
use lib.ListN.{length}
use Rattle.basics.specs.Written.{written_at}
use Rattle.basics.proofs.Written.{written_at_none}
use Rattle.text.specs.Fill.{place_after}
use Rattle.text.proofs.Places.{fill_past}

-- what a function leaves and answers that writes a text from a place on
abbrev pub Filled : List ℕ → ℕ → List ℕ → List ℕ → ℕ → Type 0
Filled old p text out r = (out ≡ written_at old p text) × (r ≡ place_after old p text)

-- Equal texts are written alike.
pub filled_as : (old : List ℕ) (p : ℕ) {xs ys out : List ℕ} {r : ℕ} → xs ≡ ys → Filled old p xs out r
    → Filled old p ys out r
filled_as old p {out} {r} e f = subst (λ (l : List ℕ). Filled old p l out r) e f

-- No text is written by leaving all as it is,
pub filled_none : (old : List ℕ) (p : ℕ) → Filled old p [] old p
filled_none old p = (sym (written_at_none old p), omega arith)

-- and so is any text where there is no room.
pub filled_past : (old : List ℕ) (p : ℕ) (text : List ℕ) → length old ≤ p → Filled old p text old p
filled_past old p text l = let (same, stays) = fill_past old p text l in (sym same, sym stays)
