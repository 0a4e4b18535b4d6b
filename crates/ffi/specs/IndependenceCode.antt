-- The answer whether a principal can matter as one number, for callers in C and Rust: 0 for independent, 1 for not
-- independent, a refusal as `refusal_code` has it. Proved in proofs/IndependenceTells.antt. Assumes nothing.
use Rattle.std.specs.Prelude.{ℕ, ◌/◌, ◌%◌, ◌≡◌, Err}
use Rattle.independence.specs.Verdict.{IndependenceVerdict, Independent, NotIndependent, Refused}
use Rattle.independence.specs.Promises.{Small}
use Rattle.ffi.specs.RefusalCode.{half, refusal_code, RefusalHalves}

unfoldable pub independence_code : IndependenceVerdict → ℕ
independence_code Independent = 0
independence_code NotIndependent = 1
independence_code (Err refusal) = refusal_code refusal.number refusal.place

-- What the two halves of the number are: 0 and 0 for independent, 0 and 1 for not independent, the number and the place
-- of a refusal. So the whole number is 0 exactly for independent.
abbrev pub IndependenceHalves : IndependenceVerdict → ℕ → ℕ → Type 0
IndependenceHalves Independent high low = (high ≡ 0) × (low ≡ 0)
IndependenceHalves NotIndependent high low = (high ≡ 0) × (low ≡ 1)
IndependenceHalves (Err refusal) high low = RefusalHalves refusal.number refusal.place high low

abbrev pub IndependenceCodeHalves : Type 0
IndependenceCodeHalves =
    (v : IndependenceVerdict) → Small v → IndependenceHalves v (independence_code v / half) (independence_code v % half)

-- Two answers within their bounds that have the same code are the same answer.
abbrev pub IndependenceCodeTells : Type 0
IndependenceCodeTells =
    (v w : IndependenceVerdict) → Small v → Small w → independence_code v ≡ independence_code w → v ≡ w
