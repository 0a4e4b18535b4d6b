-- What is promised of a record's proof in sentences (02, job 2), for every test on principals and the relation that it
-- decides. Each is proved in proofs/ under its name in small letters, and fixed to Figure 1 in Figure1.antt. Assumes
-- nothing.
use Rattle.std.specs.Prelude.{ℕ, suc, ◌≤◌, ◌<◌, Bool, ◌≡◌, ◌↔◌, List, [], ◌∷◌, ◌++◌, map, length, take, Err, Ok}
use Rattle.std.proofs.Math.Option.{Option}
use Rattle.basics.specs.Limits.{most_statements, most_steps}
use Rattle.basics.specs.Order.{FirstReason, checking_order}
use Rattle.logic.specs.Proposition.{Proposition}
use Rattle.logic.specs.Principals.{Relation}
use Rattle.steps.specs.Trace.{Line, lines}
use Rattle.record.specs.Layout.{steps, most_bytes}
use Rattle.record.specs.Proof.{Keeps, goal_of, IsProof}
use Rattle.record.specs.Reasons.{Reason}
use Rattle.record.specs.Promises.{GrantSays}
use Rattle.sentences.specs.Verdict.{SentencesVerdict, Written, Refused}
use Rattle.sentences.specs.Sentences.{sentences}
use Rattle.sentences.specs.Answer.{record_lines, record_text, sentences_answer}

-- ---- the text

module _ {R : Relation} where
  -- the lines of the derivation that a file's words are, and its text
  abbrev pub proof_lines : {file : List ℕ} → IsProof R file → List Line
  proof_lines p = lines p.derivation

  abbrev pub proof_text : {file : List ℕ} → IsProof R file → List ℕ
  proof_text p = sentences (proof_lines p)

-- the rule of a line, and the formula that it names, if any
abbrev pub rule_applied : Line → ℕ × Option Proposition
rule_applied l = (l.code, l.named)

-- "their goals are the same formula and their steps apply the same rules to the same formulas, whichever numbers the
-- tables use"
pub record SameProof {R : Relation} {file other : List ℕ} (p : IsProof R file) (q : IsProof R other) : Type 0 where
  pub same_goal : goal_of file ≡ goal_of other
  pub same_steps : map rule_applied (proof_lines p) ≡ map rule_applied (proof_lines q)

module _ (R : Relation) where
  -- Then every line is the same: the rules and what they name determine the goals of all steps, and so the formulas
  -- that a rule that names nothing is applied to.
  abbrev pub SameLines : Type 0
  SameLines =
      (file other : List ℕ) (p : IsProof R file) (q : IsProof R other) → SameProof p q → proof_lines p ≡ proof_lines q

  -- "Two granted records have equal texts only if" this is so; and if it is, they have equal texts.
  abbrev pub SameText : Type 0
  SameText =
      (file other : List ℕ) (room room' count count' : ℕ)
      → (g : GrantSays R file room count) (h : GrantSays R other room' count')
      → proof_text g.is_proof ≡ proof_text h.is_proof ↔ SameProof g.is_proof h.is_proof

module _ (speaks : ℕ → ℕ → Bool) (R : Relation) where
  -- "Write a granted record's proof as text": its text is that of the derivation that its words are.
  abbrev pub TextOfDerivation : Type 0
  TextOfDerivation = (file : List ℕ) → Keeps file → (p : IsProof R file) → record_text speaks file ≡ proof_text p

  -- "one line a step" (and one line feed a line: `FeedPerLine`)
  abbrev pub LinePerStep : Type 0
  LinePerStep =
      (file : List ℕ) → Keeps file → IsProof R file → length (record_lines speaks file) ≡ length (steps file)

-- ---- the answer

-- What a written text says: the record is granted, and the text of its derivation fits the bytes lent for it.
pub record WrittenSays (R : Relation) (file : List ℕ) (room bytes count size : ℕ) : Type 0 where
  pub grant : GrantSays R file room count
  pub fits : length (proof_text grant.is_proof) ≤ bytes
  pub counted : size ≡ length (proof_text grant.is_proof)

-- "Refused: 16, after 15, the lent bytes are fewer than the whole text; place 0."
abbrev pub sentences_order : List ℕ
sentences_order = checking_order ++ (16 ∷ [])

-- How large an answer can be, where so many bytes are lent.
abbrev pub Small : ℕ → SentencesVerdict → Type 0
Small bytes (Ok counts) = (counts.signers ≤ most_statements) × (counts.bytes ≤ bytes)
Small bytes (Err refusal) = (1 ≤ refusal.number) × (refusal.number ≤ 16) × (refusal.place ≤ most_steps)

module _ (speaks : ℕ → ℕ → Bool) (R : Relation) where
  abbrev pub WrittenExactly : Type 0
  WrittenExactly =
      (file : List ℕ) (room bytes count size : ℕ)
      → sentences_answer speaks file room bytes ≡ Written count size ↔ WrittenSays R file room bytes count size

  -- A reason to refuse: one of the record's (record/specs/Reasons.antt), or 16. There is a whole text where the words
  -- are a proof, and it is that of the derivation.
  pub data SentencesReason (file : List ℕ) (room bytes number p : ℕ) : Type 0 where
    of_record : Reason speaks file room number p → SentencesReason file room bytes number p
    text_short :
        number ≡ 16 → p ≡ 0 → (proof : IsProof R file) → bytes < length (proof_text proof)
        → SentencesReason file room bytes number p

  -- Every other file is refused by the first reason in the order that applies, with its place.
  abbrev pub RefusedExactly : Type 0
  RefusedExactly =
      (file : List ℕ) (room bytes number p : ℕ)
      → sentences_answer speaks file room bytes ≡ Refused number p
      ↔ FirstReason sentences_order (SentencesReason file room bytes) number p

module _ (speaks : ℕ → ℕ → Bool) where
  abbrev pub AnswersSmall : Type 0
  AnswersSmall = (file : List ℕ) (room bytes : ℕ) → Small bytes (sentences_answer speaks file room bytes)

  -- A file longer than the longest record has the answer of its first bytes, one more than the longest record has.
  abbrev pub LongerFile : Type 0
  LongerFile =
      (file : List ℕ) (room bytes : ℕ) → most_bytes < length file
      → sentences_answer speaks file room bytes ≡ sentences_answer speaks (take (suc most_bytes) file) room bytes
