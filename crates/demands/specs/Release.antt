-- What demand 1 says of a record and a lent list: a release, a grant with its signers, a refusal by the first reason.
-- Proofs are for a relation R on principals, reasons to refuse for a test `speaks` that decides it; Figure 1 has
-- equality (Figure1.antt). Assumes nothing.
use Rattle.std.specs.Prelude.{ℕ, ◌≤◌, Bool, ◌≡◌, ◌↔◌, List, ◌++◌, length, drop}
use Rattle.basics.specs.Membership.{◌∈◌}
use Rattle.basics.specs.Rising.{Rising}
use Rattle.basics.specs.Order.{FirstReason, checking_order}
use Rattle.logic.specs.Principals.{Relation}
use Rattle.record.specs.Verdict.{RecordVerdict, Granted, Refused}
use Rattle.record.specs.Proof.{Keeps, IsProof}
use Rattle.record.specs.Carries.{Carries}
use Rattle.record.specs.Reasons.{Reason}

-- The signers of a record: those K who carried, in the proof that its words are, each once, "in rising principal
-- number" (02, job 1). `Carries`: a statement spells K says A, and some says left names it (02, job 3).
pub record Signers (R : Relation) (file names : List ℕ) : Type 0 where
  pub each : (K : ℕ) → K ∈ names ↔ ((p : IsProof R file) × Carries p K)
  pub rising : Rising names

-- "A record that keeps the layout and its limits, whose words are a proof of its goal and whose signers fit the list
-- lent for them"
pub record Release (R : Relation) (file : List ℕ) (room : ℕ) : Type 0 where
  pub keeps : Keeps file
  pub is_proof : IsProof R file
  pub names : List ℕ
  pub signers : Signers R file names
  pub fits : length names ≤ room

-- "is granted with its signers": they stand in the list from its start, and the words after them are as they were
pub record GrantedWithSigners (R : Relation) (file : List ℕ) (answer : RecordVerdict)
    (before after : List ℕ) : Type 0 where
  pub names : List ℕ
  pub signers : Signers R file names
  pub granted : answer ≡ Granted (length names)
  pub written : after ≡ names ++ drop (length names) before

-- "the first reason in the fixed order that applies, with its place"
abbrev pub First : (ℕ → ℕ → Bool) → List ℕ → ℕ → ℕ → ℕ → Type 0
First speaks file room number p = FirstReason checking_order (Reason speaks file room) number p

-- "is refused by the first reason .., with its place, and the signers' list stays untouched"
pub record RefusedUntouched (speaks : ℕ → ℕ → Bool) (file : List ℕ) (answer : RecordVerdict) (before after : List ℕ)
    : Type 0 where
  pub number : ℕ
  pub place : ℕ
  pub first : First speaks file (length before) number place
  pub refused : answer ≡ Refused number place
  pub untouched : after ≡ before
