-- What a grant and a refusal say of two of 01's samples. Proved in proofs/ReleaseSamples.antt. Assumes nothing.
use Rattle.std.specs.Prelude.{ℕ, ◌≡◌, List, [], ◌∷◌, drop}
use Rattle.file.specs.Words.{file_of}
use Rattle.record.specs.Verdict.{RecordVerdict, Granted, Refused}
use Rattle.record.specs.Samples.{over_t, bytes_of_a}
use Rattle.demands.specs.Figure1.{GrantedWithSigners, RefusedUntouched}

-- Record A is granted with signer 7, who stands first in the list, once, and nothing else changes.
abbrev pub GrantOfA : Type 0
GrantOfA =
    (answer : RecordVerdict) (before after : List ℕ) → GrantedWithSigners bytes_of_a answer before after
    → (answer ≡ Granted 1) × (after ≡ 7 ∷ drop 1 before)

-- Sample C is refused 14 at 0, and a list of one word is as it was.
abbrev pub RefusalOfC : Type 0
RefusalOfC =
    (answer : RecordVerdict) (after : List ℕ)
    → RefusedUntouched (file_of (over_t (1 ∷ []) 0 (45057 ∷ []))) answer (9 ∷ []) after
    → (answer ≡ Refused 14 0) × (after ≡ 9 ∷ [])
