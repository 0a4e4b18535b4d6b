-- "The mill's rule has changed: a paper that lay unused makes no signer. A signer is now a principal K with a statement
-- K says A that some says-left step names. Refusal 8 counts these and is tested after 15 and before 16." (02, job 3)
-- Proved in proofs/WhoCarried.antt. Assumes nothing.
use Rattle.std.specs.Prelude.{ℕ, ◌<◌, Bool, ◌≡◌, ◌↔◌, List, [], ◌∷◌, length, drop}
use Rattle.logic.specs.Principals.{Relation}
use Rattle.record.specs.Verdict.{RecordVerdict, Refused}
use Rattle.record.specs.Answer.{record_answer}
use Rattle.record.specs.Proof.{Keeps, IsProof}
use Rattle.sentences.specs.Verdict.{SentencesVerdict}
use Rattle.sentences.specs.Verdict as Sentences
use Rattle.sentences.specs.Answer.{sentences_answer}
use Rattle.sentences.specs.Promises.{sentences_order}
use Rattle.demands.specs.Release.{Signers}

-- A file that is no release only because the list is too short for those who carried.
pub record ListTooShort (R : Relation) (file : List ℕ) (room : ℕ) : Type 0 where
  pub keeps : Keeps file
  pub is_proof : IsProof R file
  pub names : List ℕ
  pub signers : Signers R file names
  pub short : room < length names

module _ (speaks : ℕ → ℕ → Bool) (R : Relation) where
  -- "Refusal 8 counts these": a call answers 8 for exactly these files.
  abbrev pub EightCounts : Type 0
  EightCounts =
      (file before : List ℕ) (answer : RecordVerdict) → answer ≡ record_answer speaks file (length before)
      → (p : ℕ) → answer ≡ Refused 8 p ↔ ((p ≡ 0) × ListTooShort R file (length before))

  -- and so does a call for the text, before 16,
  abbrev pub EightOfSentences : Type 0
  EightOfSentences =
      (file list text : List ℕ) (answer : SentencesVerdict)
      → answer ≡ sentences_answer speaks file (length list) (length text)
      → (p : ℕ) → answer ≡ Sentences.Refused 8 p ↔ ((p ≡ 0) × ListTooShort R file (length list))

-- "and is tested after 15 and before 16"
abbrev pub EightStands : Type 0
EightStands = drop 13 sentences_order ≡ 15 ∷ 8 ∷ 16 ∷ []
