-- Two cases of two numbers. Assumes nothing.
use Prim.Native.Nat.{ℕ, ◌<◌, ◌≤◌}
use native.Mathlib.Decide.{dec_lt}
use native.Mathlib.Omega.{arith}
use mathlib.Core.Logic.{◌⊎◌, inl, inr}

-- A number is below another, or it is not.
pub split : (j n : ℕ) → (j < n) ⊎ (n ≤ j)
split j n = by_dec (dec_lt j n)
  where
    by_dec : Dec (j < n) → (j < n) ⊎ (n ≤ j)
    by_dec (yes l) = inl l
    by_dec (no l) = inr (omega arith)
