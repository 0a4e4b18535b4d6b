-- The number of an exchange file's answer (specs/ExchangeCode.antt): what it is in each case, and that it tells answers
-- apart. Assumes nothing.
use Prim.Native.Nat.{ℕ, ◌≤◌}
use native.Mathlib.Omega.{arith}
use mathlib.Core.Path.{◌≡◌, refl, sym, ap, ap₂, subst}
use Rattle.std.specs.Prelude.{Err}
use Rattle.basics.specs.Limits.{most_steps}
use Rattle.exchange.specs.Verdict.{ExchangeVerdict, Equal, Refused}
use Rattle.exchange.specs.Promises.{Small}
use Rattle.ffi.specs.RefusalCode.{refusal_code}
use Rattle.ffi.specs.ExchangeCode.{exchange_code, ExchangeCodeHalves, ExchangeCodeTells}
use Rattle.ffi.proofs.Refusals.{refusal_halves, refusal_above, refusal_tells}

pub exchange_code_halves : ExchangeCodeHalves
unfolding exchange_code
exchange_code_halves Equal small = (refl, refl)
exchange_code_halves (Err r) (some, few, within) = refusal_halves r.number r.place some within

pub exchange_code_tells : ExchangeCodeTells
unfolding exchange_code
exchange_code_tells Equal Equal small small' same = refl
exchange_code_tells Equal (Err r) small (some', few', within') same =
    absurd (omega (arith, refusal_above r.number r.place some', same))
exchange_code_tells (Err r) Equal (some, few, within) small' same =
    absurd (omega (arith, refusal_above r.number r.place some, same))
exchange_code_tells (Err r) (Err r') (some, few, within) (some', few', within') same =
    let (same_number, same_place) = refusal_tells r.number r.place r'.number r'.place within within' same in
    ap₂ (λ (n p : ℕ). Refused n p) same_number same_place
