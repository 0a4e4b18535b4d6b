-- "Within the limits, and with a list long enough for the signers, the checker grants every such proof and nothing
-- else." (demand 2) Here from the side of the derivations: each that is within the limits has a record, and what has a
-- record that is granted has such a derivation. For every test on principals and the relation that it decides;
-- Figure1.antt fixes them. Proved in proofs/Record.antt and proofs/Released.antt. Assumes nothing.
use Rattle.std.specs.Prelude.{ℕ, ◌≤◌, Bool, ◌≡◌, ◌↔◌, List, [], ◌∷◌, map, length}
use Rattle.basics.specs.Membership.{◌∈◌}
use Rattle.basics.specs.Rising.{Rising}
use Rattle.logic.specs.Proposition.{Proposition, ◌says◌}
use Rattle.logic.specs.Judgment.{truth}
use Rattle.logic.specs.Principals.{Relation}
use Rattle.logic.specs.Derivation.{Derivation}
use Rattle.logic.specs.Depth.{step_depths}
use Rattle.logic.specs.Named.{says_left_names}
use Rattle.table.specs.Number.{position, number}
use Rattle.steps.specs.Words.{words}
use Rattle.record.specs.Verdict.{Granted}
use Rattle.record.specs.Layout.{steps, table, signers}
use Rattle.record.specs.Answer.{record_answer}
use Rattle.record.specs.Proof.{stated_by, goal_of}
use Rattle.encoding.specs.Bounds.{FewFormulas, FewStatements, FewSteps, NotDeep}
use Rattle.encoding.specs.Subformulas.{subformulas}
use Rattle.encoding.specs.Table.{heads_of, seconds_of}
use Rattle.encoding.specs.Laid.{laid, AreBytes}

-- ---- the derivation

-- "F formulas (1 to 4,096), S statements (0 to 256), N steps (1 to 16,384)", "depth is at most 512" (01): of a
-- derivation, its goal and its statements.
pub record Within {R : Relation} {Γ : List Proposition} {A : Proposition} (D : Derivation R Γ (truth A)) : Type 0 where
  pub few_formulas : FewFormulas (A ∷ Γ)
  pub few_statements : FewStatements (length Γ)
  pub few_steps : FewSteps (length (step_depths 1 D))
  pub not_deep : NotDeep (step_depths 1 D)

-- "A signer is now a principal K with a statement K says A that some says-left step names." (02, job 3)
pub record CarriedBy {R : Relation} {Γ : List Proposition} {A : Proposition}
    (D : Derivation R Γ (truth A)) (K : ℕ) : Type 0 where
  pub said : Proposition
  pub stated : (K says said) ∈ Γ
  pub named : (K says said) ∈ says_left_names D

-- ---- its record

module _ {R : Relation} {Γ : List Proposition} {A : Proposition} (D : Derivation R Γ (truth A)) where
  -- the formulas of its table
  abbrev pub record_formulas : List Proposition
  record_formulas = subformulas (A ∷ Γ)

  -- "F formulas .., S statements .., N steps .., and the goal's formula number."
  abbrev pub record_fields : List ℕ
  record_fields =
      length record_formulas
      ∷ length Γ
      ∷ length (words (position record_formulas) D)
      ∷ position record_formulas A
      ∷ []

  -- "Then two parallel arrays of F words each, heads and seconds. Then S formula numbers, the statements. Then N step
  -- words."
  abbrev pub record_parts : List (List ℕ)
  record_parts =
      heads_of record_formulas
      ∷ seconds_of record_formulas
      ∷ map (position record_formulas) Γ
      ∷ words (position record_formulas) D
      ∷ []

  abbrev pub encoded_record : List ℕ
  encoded_record = laid record_fields record_parts

-- A file of bytes that has this goal and these statements, and whose steps are this derivation. Its signers are those
-- who carried, each once, "in rising principal number" (02, job 1); a list of 256 words always holds them; and it is
-- granted with every list that does.
pub record RecordOf (speaks : ℕ → ℕ → Bool) {R : Relation} {Γ : List Proposition} {A : Proposition}
    (D : Derivation R Γ (truth A)) (file : List ℕ) : Type 0 where
  pub bytes : AreBytes file
  pub goal_is : goal_of file ≡ A
  pub statements_are : stated_by file ≡ Γ
  pub steps_are : steps file ≡ words (number (table file)) D
  pub signed : (K : ℕ) → K ∈ signers file ↔ CarriedBy D K
  pub rising : Rising (signers file)
  pub few_signers : FewStatements (length (signers file))
  pub granted :
      (room : ℕ) → length (signers file) ≤ room → record_answer speaks file room ≡ Granted (length (signers file))

-- A record of this goal from these statements that is granted, with some list lent.
pub record Released (speaks : ℕ → ℕ → Bool) (Γ : List Proposition) (A : Proposition) : Type 0 where
  pub file : List ℕ
  pub bytes : AreBytes file
  pub goal_is : goal_of file ≡ A
  pub statements_are : stated_by file ≡ Γ
  pub room : ℕ
  pub count : ℕ
  pub granted : record_answer speaks file room ≡ Granted count

-- ---- what is promised

module _ (speaks : ℕ → ℕ → Bool) (R : Relation) where
  -- The file above is a record of the derivation;
  abbrev pub EncodedIsRecord : Type 0
  EncodedIsRecord =
      (Γ : List Proposition) (A : Proposition) (D : Derivation R Γ (truth A))
      → Within D → RecordOf speaks D (encoded_record D)

  -- so every proof within the limits has one.
  abbrev pub EveryProofHasARecord : Type 0
  EveryProofHasARecord =
      (Γ : List Proposition) (A : Proposition) (D : Derivation R Γ (truth A))
      → Within D → (file : List ℕ) × RecordOf speaks D file

  -- A goal is released from statements exactly when it has a proof from them within the limits.
  abbrev pub ReleasedExactly : Type 0
  ReleasedExactly =
      (Γ : List Proposition) (A : Proposition)
      → ((D : Derivation R Γ (truth A)) × Within D) ↔ Released speaks Γ A
