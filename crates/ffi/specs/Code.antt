-- An answer as one number, for callers in C and Rust: the count of a grant as it is, a refusal as `refusal_code` has it.
-- Proved in proofs/Tells.antt. Assumes nothing.
use Rattle.std.specs.Prelude.{ℕ, ◌/◌, ◌%◌, ◌≡◌, Err}
use Rattle.record.specs.Verdict.{RecordVerdict, Granted, Refused}
use Rattle.record.specs.Promises.{Small}
use Rattle.ffi.specs.RefusalCode.{half, refusal_code, RefusalHalves}

unfoldable pub answer_code : RecordVerdict → ℕ
answer_code (Granted count) = count
answer_code (Err refusal) = refusal_code refusal.number refusal.place

-- What the two halves of the number are: 0 and the count of a grant, the number and the place of a refusal.
abbrev pub Halves : RecordVerdict → ℕ → ℕ → Type 0
Halves (Granted count) high low = (high ≡ 0) × (low ≡ count)
Halves (Err refusal) high low = RefusalHalves refusal.number refusal.place high low

abbrev pub CodeHalves : Type 0
CodeHalves = (v : RecordVerdict) → Small v → Halves v (answer_code v / half) (answer_code v % half)

-- Two answers within their bounds that have the same code are the same answer: a grant is no refusal, and number and
-- place are told apart.
abbrev pub CodeTells : Type 0
CodeTells = (v w : RecordVerdict) → Small v → Small w → answer_code v ≡ answer_code w → v ≡ w
