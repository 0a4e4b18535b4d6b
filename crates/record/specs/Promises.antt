-- What is promised of the answers: demands 1 and 2 for records, for every test on principals and, where a proof is
-- spoken of, the relation that it decides. Each is proved in proofs/ under its name in small letters, and fixed to
-- Figure 1 in Figure1.antt. Assumes nothing.
use Rattle.std.specs.Prelude.{ℕ, suc, ◌≤◌, ◌<◌, Bool, ◌≡◌, ◌↔◌, List, length, take, Err}
use Rattle.basics.specs.Membership.{◌∈◌}
use Rattle.basics.specs.Limits.{most_statements, most_steps}
use Rattle.basics.specs.Order.{FirstReason, checking_order}
use Rattle.logic.specs.Principals.{Relation}
use Rattle.record.specs.Verdict.{RecordVerdict, Granted, Refused}
use Rattle.record.specs.Layout.{formulas, goal, heads, seconds, statements, steps, most_bytes, signers}
use Rattle.record.specs.Answer.{record_answer}
use Rattle.record.specs.Proof.{Sized, Keeps, IsProof}
use Rattle.record.specs.Reasons.{Reason}

-- What a grant says. "A record that keeps the layout and its limits, whose words are a proof of its goal and whose
-- signers fit the list lent for them, is granted with its signers." "Within the limits, and with a list long enough for
-- the signers, the checker grants every such proof and nothing else." (demands 1 and 2)
pub record GrantSays (R : Relation) (file : List ℕ) (room count : ℕ) : Type 0 where
  pub keeps : Keeps file
  pub is_proof : IsProof R file
  pub fits : length (signers file) ≤ room
  pub counted : count ≡ length (signers file)

module _ (speaks : ℕ → ℕ → Bool) (R : Relation) where
  abbrev pub GrantedExactly : Type 0
  GrantedExactly =
      (file : List ℕ) (room count : ℕ) → record_answer speaks file room ≡ Granted count ↔ GrantSays R file room count

  -- "Refusal 8 counts these and is tested after 15" (02, job 3): it is for a file that a longer list would have
  -- granted.
  abbrev pub EightExactly : Type 0
  EightExactly =
      (file : List ℕ) (room p : ℕ)
      → record_answer speaks file room ≡ Refused 8 p
      ↔ ((p ≡ 0) × Keeps file × IsProof R file × (room < length (signers file)))

-- How large an answer can be.
abbrev pub Small : RecordVerdict → Type 0
Small (Granted count) = count ≤ most_statements
Small (Err refusal) = (1 ≤ refusal.number) × (refusal.number ≤ 15) × (refusal.place ≤ most_steps)

-- Two records of one table, goal and steps.
pub record SameButStatements (file other : List ℕ) : Type 0 where
  pub same_heads : heads file ≡ heads other
  pub same_seconds : seconds file ≡ seconds other
  pub same_goal : goal file ≡ goal other
  pub same_steps : steps file ≡ steps other

-- Two such records whose statements are the same set, as where one of them stands twice.
pub record SameSet (file other : List ℕ) : Type 0 where
  pub same_rest : SameButStatements file other
  pub same_statements : (n : ℕ) → n ∈ statements file ↔ n ∈ statements other

module _ (speaks : ℕ → ℕ → Bool) where
  -- "Every other file, of any bytes and length, is refused by the first reason in the fixed order that applies, with
  -- its place" (demand 1): of those that apply the one that stands first in the checking order.
  abbrev pub RefusedExactly : Type 0
  RefusedExactly =
      (file : List ℕ) (room number p : ℕ)
      → record_answer speaks file room ≡ Refused number p ↔ FirstReason checking_order (Reason speaks file room) number p

  -- "keeps the layout and its limits" is that none of 1 to 7 applies.
  abbrev pub KeepsExactly : Type 0
  KeepsExactly =
      (file : List ℕ) (room : ℕ) → Keeps file ↔ ((number p : ℕ) → number ≤ 7 → ¬ Reason speaks file room number p)

  abbrev pub AnswersSmall : Type 0
  AnswersSmall = (file : List ℕ) (room : ℕ) → Small (record_answer speaks file room)

  -- A file longer than the longest record has the answer of its first bytes, one more than the longest record has.
  abbrev pub LongerFile : Type 0
  LongerFile =
      (file : List ℕ) (room : ℕ) → most_bytes < length file
      → record_answer speaks file room ≡ record_answer speaks (take (suc most_bytes) file) room

  -- Within the limits of the layout records of one set have the same answer, unless 7 applies, whose place may differ;
  abbrev pub StatementsAreASet : Type 0
  StatementsAreASet =
      (file other : List ℕ) → Sized file → Sized other → SameSet file other
      → ((n : ℕ) → n ∈ statements file → n < formulas file)
      → (room : ℕ) → record_answer speaks file room ≡ record_answer speaks other room

  -- so one is granted exactly when the other is, with the same signers. "They put a statement in twice and think it
  -- weighs double." (00)
  abbrev pub StatedTwice : Type 0
  StatedTwice =
      (file other : List ℕ) → Sized file → Sized other → SameSet file other
      → ((room count : ℕ)
      → record_answer speaks file room ≡ Granted count ↔ record_answer speaks other room ≡ Granted count)
      × (signers file ≡ signers other)
