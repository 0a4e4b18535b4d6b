-- The number of an answer whether a principal can matter (specs/IndependenceCode.antt): what it is in each case, and
-- that it tells answers apart. Assumes nothing.
use Prim.Native.Nat.{ℕ, ◌≤◌}
use native.Mathlib.Omega.{arith}
use mathlib.Core.Path.{◌≡◌, refl, sym, ap, ap₂, subst}
use Rattle.std.specs.Prelude.{Err}
use Rattle.basics.specs.Limits.{most_steps}
use Rattle.independence.specs.Verdict.{IndependenceVerdict, Independent, NotIndependent, Refused}
use Rattle.independence.specs.Promises.{Small}
use Rattle.ffi.specs.RefusalCode.{refusal_code}
use Rattle.ffi.specs.IndependenceCode.{independence_code, IndependenceCodeHalves, IndependenceCodeTells}
use Rattle.ffi.proofs.Refusals.{refusal_halves, refusal_above, refusal_tells}

pub independence_code_halves : IndependenceCodeHalves
unfolding independence_code
independence_code_halves Independent small = (refl, refl)
independence_code_halves NotIndependent small = (refl, refl)
independence_code_halves (Err r) (some, few, within) = refusal_halves r.number r.place some within

pub independence_code_tells : IndependenceCodeTells
unfolding independence_code
independence_code_tells Independent Independent small small' same = refl
independence_code_tells Independent NotIndependent small small' same = absurd (omega arith)
independence_code_tells Independent (Err r) small (some', few', within') same =
    absurd (omega (arith, refusal_above r.number r.place some', same))
independence_code_tells NotIndependent Independent small small' same = absurd (omega arith)
independence_code_tells NotIndependent NotIndependent small small' same = refl
independence_code_tells NotIndependent (Err r) small (some', few', within') same =
    absurd (omega (arith, refusal_above r.number r.place some', same))
independence_code_tells (Err r) Independent (some, few, within) small' same =
    absurd (omega (arith, refusal_above r.number r.place some, same))
independence_code_tells (Err r) NotIndependent (some, few, within) small' same =
    absurd (omega (arith, refusal_above r.number r.place some, same))
independence_code_tells (Err r) (Err r') (some, few, within) (some', few', within') same =
    let (same_number, same_place) = refusal_tells r.number r.place r'.number r'.place within within' same in
    ap₂ (λ (n p : ℕ). Refused n p) same_number same_place
