-- The answer for a record: granted, or refused. "Granted gives their count", that of the signers; "a refusal gives its
-- number and a place" (01).
use Rattle.std.specs.Prelude.{ℕ, Result, Ok}
use Rattle.basics.specs.declared.refusal.Refusal.{Refusal}
pub use Rattle.basics.specs.Tested.{Refused}

abbrev pub RecordVerdict : Type 0
RecordVerdict = Result ℕ Refusal

pattern abbrev pub Granted : ℕ → RecordVerdict
Granted count = Ok count
