-- The code of a refusal (specs/RefusalCode.antt): what its halves are, and that it tells refusals apart. Assumes
-- nothing.
use Prim.Native.Nat.{ℕ, ◌/◌, ◌%◌, ◌≤◌}
use native.Mathlib.Omega.{arith}
use mathlib.Core.Path.{◌≡◌, refl}
use Rattle.basics.specs.Limits.{most_steps}
use Rattle.ffi.specs.RefusalCode.{half, refusal_code, CodeIs, RefusalHalves}

pub code_is : CodeIs
code_is = refl

-- A place in a file is less than 2^32, so the number is all of the upper half.
pub refusal_halves :
    (number place : ℕ) → 1 ≤ number → place ≤ most_steps → RefusalHalves number place (refusal_code number place / half) (refusal_code number place % half)
refusal_halves number place some within = (omega arith, omega arith, omega arith)

-- It is more than every answer of the lower half alone,
pub refusal_above : (number place : ℕ) → 1 ≤ number → half ≤ refusal_code number place
refusal_above number place some = omega arith

-- and refusals with the same code have the same number and the same place.
pub refusal_tells :
    (number place number' place' : ℕ) → place ≤ most_steps → place' ≤ most_steps → refusal_code number place ≡ refusal_code number' place'
    → (number ≡ number') × (place ≡ place')
refusal_tells number place number' place' within within' same = (omega arith, omega arith)
