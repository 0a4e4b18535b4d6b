-- What is promised of the test whether a principal can matter (02, job 5), for every test on principals and the
-- relation that it decides. Each is proved in proofs/ under its name in small letters, and fixed to Figure 1 in
-- Figure1.antt. Assumes nothing.
use Rattle.std.specs.Prelude.{ℕ, suc, ◌≤◌, ◌<◌, Bool, ◌≡◌, ◌↔◌, List, [], ◌∷◌, length, take, Err}
use Rattle.basics.specs.Membership.{◌∈◌}
use Rattle.basics.specs.Limits.{most_steps, most_principals}
use Rattle.basics.specs.Order.{FirstReason}
use Rattle.logic.specs.Principals.{Relation}
use Rattle.logic.specs.Signed.{SignedBy, Himself}
use Rattle.logic.specs.Sides as Sides
use Rattle.table.specs.Spelled.{spell}
use Rattle.record.specs.Verdict.{Granted}
use Rattle.record.specs.Layout.{goal, heads, seconds, statements, table, most_bytes, signers}
use Rattle.record.specs.Answer.{record_answer}
use Rattle.record.specs.Proof.{Sized, Keeps, stated_by, goal_of, IsProof}
use Rattle.record.specs.Reasons.{Reason}
use Rattle.record.specs.Promises.{SameButStatements}
use Rattle.independence.specs.Verdict.{IndependenceVerdict, Independent, NotIndependent, Refused}
use Rattle.independence.specs.Answer.{independence_answer}

-- ---- the answer

module _ (speaks : ℕ → ℕ → Bool) (R : Relation) where
  -- "the test says independent exactly when no says-formula of K stands on the proving side of the goal or of any
  -- statement, leaving out statements that are themselves K says something", where 1 to 7 and 17 don't apply;
  abbrev pub IndependentExactly : Type 0
  IndependentExactly =
      (file : List ℕ) (K : ℕ)
      → independence_answer speaks file K ≡ Independent
      ↔ (Keeps file × (K < most_principals) × Sides.Independent R K (stated_by file) (goal_of file))

  -- not independent exactly when one does. It doesn't say that K's papers do matter (Samples.antt).
  abbrev pub NotIndependentExactly : Type 0
  NotIndependentExactly =
      (file : List ℕ) (K : ℕ)
      → independence_answer speaks file K ≡ NotIndependent
      ↔ (Keeps file × (K < most_principals) × Sides.CouldTouch R K (stated_by file) (goal_of file))

-- "so 1 to 7 apply. Refused: 17, after 7"
abbrev pub independence_order : List ℕ
independence_order = 1 ∷ 2 ∷ 3 ∷ 4 ∷ 5 ∷ 6 ∷ 7 ∷ 17 ∷ []

-- How large an answer can be.
abbrev pub Small : IndependenceVerdict → Type 0
Small Independent = Unit
Small NotIndependent = Unit
Small (Err refusal) = (1 ≤ refusal.number) × (refusal.number ≤ 17) × (refusal.place ≤ most_steps)

module _ (speaks : ℕ → ℕ → Bool) where
  -- A reason to refuse: one of 1 to 7 as a record has it (record/specs/Reasons.antt; no list is lent), or 17.
  pub data IndependenceReason (file : List ℕ) (K number p : ℕ) : Type 0 where
    of_record : number ≤ 7 → Reason speaks file 0 number p → IndependenceReason file K number p
    -- "the principal's number is above 4,095; place 0"
    principal_outside : number ≡ 17 → p ≡ 0 → most_principals ≤ K → IndependenceReason file K number p

  abbrev pub RefusedExactly : Type 0
  RefusedExactly =
      (file : List ℕ) (K number p : ℕ)
      → independence_answer speaks file K ≡ Refused number p
      ↔ FirstReason independence_order (IndependenceReason file K) number p

  -- "The test reads a record but not its steps": of files that 1 to 3 let pass, the table, the statements and the goal
  -- decide, whatever the steps are and however many.
  abbrev pub StepsUnread : Type 0
  StepsUnread =
      (file changed : List ℕ) → Sized file → Sized changed
      → heads file ≡ heads changed → seconds file ≡ seconds changed → statements file ≡ statements changed
      → goal file ≡ goal changed
      → (K : ℕ) → independence_answer speaks file K ≡ independence_answer speaks changed K

  abbrev pub AnswersSmall : Type 0
  AnswersSmall = (file : List ℕ) (K : ℕ) → Small (independence_answer speaks file K)

  -- A file longer than the longest record has the answer of its first bytes, one more than the longest record has.
  abbrev pub LongerFile : Type 0
  LongerFile =
      (file : List ℕ) (K : ℕ) → most_bytes < length file
      → independence_answer speaks file K ≡ independence_answer speaks (take (suc most_bytes) file) K

-- ---- over one table

-- Two records of one table, goal and steps, whose statements are the same but for those of K.
pub record SameButFor (K : ℕ) (file changed : List ℕ) : Type 0 where
  pub same_rest : SameButStatements file changed
  pub same_others :
      (n : ℕ) → ¬ SignedBy (Himself K) (spell (table file) n) → n ∈ statements file ↔ n ∈ statements changed

module _ (speaks : ℕ → ℕ → Bool) (R : Relation) where
  -- "Then each proof of the goal is also one, step by step, after K's statements are taken out or exchanged for other
  -- statements of K within the limits": the same step words are a proof in both, so one is granted exactly when the
  -- other is, with the same room, and the other is independent of K as well.
  pub record SameWordsSay (file changed : List ℕ) (K : ℕ) : Type 0 where
    pub same_proof : IsProof R file ↔ IsProof R changed
    pub same_grant :
        (room count : ℕ)
        → record_answer speaks file room ≡ Granted count ↔ record_answer speaks changed room ≡ Granted count
    pub same_signers : IsProof R file → signers file ≡ signers changed
    pub independent_too : independence_answer speaks changed K ≡ Independent

  abbrev pub SameWords : Type 0
  SameWords =
      (file changed : List ℕ) (K : ℕ) → independence_answer speaks file K ≡ Independent
      → Keeps changed → SameButFor K file changed → SameWordsSay file changed K

-- K is no signer of a record that is granted and independent of K.
abbrev pub NeverSigns : (ℕ → ℕ → Bool) → Type 0
NeverSigns speaks =
    (file : List ℕ) (K room count : ℕ) → independence_answer speaks file K ≡ Independent
    → record_answer speaks file room ≡ Granted count → ¬ (K ∈ signers file)
