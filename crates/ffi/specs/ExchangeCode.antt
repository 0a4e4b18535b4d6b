-- The answer for an exchange file as one number, for callers in C and Rust: 0 for equal, a refusal as `refusal_code` has
-- it. Proved in proofs/ExchangeTells.antt. Assumes nothing.
use Rattle.std.specs.Prelude.{ℕ, ◌/◌, ◌%◌, ◌≡◌, Err}
use Rattle.exchange.specs.Verdict.{ExchangeVerdict, Equal, Refused}
use Rattle.exchange.specs.Promises.{Small}
use Rattle.ffi.specs.RefusalCode.{half, refusal_code, RefusalHalves}

unfoldable pub exchange_code : ExchangeVerdict → ℕ
exchange_code Equal = 0
exchange_code (Err refusal) = refusal_code refusal.number refusal.place

-- What the two halves of the number are: both 0 for equal, the number and the place of a refusal. So the upper half is
-- 0 exactly for equal.
abbrev pub ExchangeHalves : ExchangeVerdict → ℕ → ℕ → Type 0
ExchangeHalves Equal high low = (high ≡ 0) × (low ≡ 0)
ExchangeHalves (Err refusal) high low = RefusalHalves refusal.number refusal.place high low

abbrev pub ExchangeCodeHalves : Type 0
ExchangeCodeHalves = (v : ExchangeVerdict) → Small v → ExchangeHalves v (exchange_code v / half) (exchange_code v % half)

-- Two answers within their bounds that have the same code are the same answer: equal is no refusal, and number and
-- place are told apart.
abbrev pub ExchangeCodeTells : Type 0
ExchangeCodeTells = (v w : ExchangeVerdict) → Small v → Small w → exchange_code v ≡ exchange_code w → v ≡ w
