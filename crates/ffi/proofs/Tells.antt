-- The number of a record's answer (specs/Code.antt): what it is in each case, and that it tells answers apart. Assumes
-- nothing.
use Prim.Native.Nat.{ℕ, ◌≤◌}
use native.Mathlib.Omega.{arith}
use mathlib.Core.Path.{◌≡◌, sym, ap, ap₂, subst}
use Rattle.std.specs.Prelude.{Err}
use Rattle.basics.specs.Limits.{most_steps}
use Rattle.record.specs.Verdict.{RecordVerdict, Granted, Refused}
use Rattle.record.specs.Promises.{Small}
use Rattle.ffi.specs.RefusalCode.{refusal_code}
use Rattle.ffi.specs.Code.{answer_code, CodeHalves, CodeTells}
use Rattle.ffi.proofs.Refusals.{refusal_halves, refusal_above, refusal_tells}

pub code_halves : CodeHalves
unfolding answer_code
code_halves (Granted count) small = (omega (arith, small), omega (arith, small))
code_halves (Err r) (some, few, within) = refusal_halves r.number r.place some within

pub code_tells : CodeTells
unfolding answer_code
code_tells (Granted count) (Granted count') small small' same = ap (λ (c : ℕ). Granted c) same
code_tells (Granted count) (Err r) small (some', few', within') same =
    absurd (omega (arith, small, refusal_above r.number r.place some', same))
code_tells (Err r) (Granted count') (some, few, within) small' same =
    absurd (omega (arith, small', refusal_above r.number r.place some, same))
code_tells (Err r) (Err r') (some, few, within) (some', few', within') same =
    let (same_number, same_place) = refusal_tells r.number r.place r'.number r'.place within within' same in
    ap₂ (λ (n p : ℕ). Refused n p) same_number same_place
