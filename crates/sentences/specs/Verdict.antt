-- The answer of a call that writes a record's proof in sentences: how many signers and how many bytes it wrote, or a
-- refusal, which "gives its number and a place" (01).
use Rattle.std.specs.Prelude.{ℕ, Result, Ok}
use Rattle.basics.specs.declared.refusal.Refusal.{Refusal}
use Rattle.sentences.specs.declared.counts.Counts.{Counts}
pub use Rattle.basics.specs.Tested.{Refused}

abbrev pub SentencesVerdict : Type 0
SentencesVerdict = Result Counts Refusal

abbrev pub Written : ℕ → ℕ → SentencesVerdict
Written signers bytes = Ok (record { signers = signers; bytes = bytes })
