-- Past the cases of a match on a number. Assumes nothing.
use Prim.Native.Nat.{ℕ, zero, suc, ◌≤◌}
use native.Mathlib.Omega.{arith}
use mathlib.Core.Path.{◌≡◌}

-- x is none of the numbers below k, as the `_` of a match on these leaves it: so it is k or more.
abbrev pub NoneBelow : ℕ → ℕ → Type 0
NoneBelow zero x = Unit
NoneBelow (suc k) x = NoneBelow k x × ¬ (x ≡ k)

pub past : (k x : ℕ) → NoneBelow k x → k ≤ x
past zero x none = omega arith
past (suc k) x (none, other) = omega (arith, past k x none)
