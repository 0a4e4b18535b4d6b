-- "Write a granted record's proof as text .. The signers' list is lent and filled too. Refused: 16, after 15, the lent
-- bytes are fewer than the whole text; place 0." (02, job 2) Proved in proofs/Sentences.antt. Assumes nothing.
use Rattle.std.specs.Prelude.{ℕ, ◌≤◌, Bool, ◌≡◌, List, ◌++◌, length, drop}
use Rattle.basics.specs.Order.{FirstReason}
use Rattle.logic.specs.Principals.{Relation}
use Rattle.sentences.specs.Verdict.{SentencesVerdict, Written, Refused}
use Rattle.sentences.specs.Answer.{sentences_answer, signers_after, text_after}
use Rattle.sentences.specs.Promises.{proof_text, sentences_order, SentencesReason}
use Rattle.demands.specs.Release.{Release}

-- A call: its answer, and what is lent before and after it. For Figure 1 these are the clauses of the contract of
-- `write_sentences`.
pub record Call (speaks : ℕ → ℕ → Bool) (file list list' text text' : List ℕ) (answer : SentencesVerdict) : Type 0 where
  pub answered : answer ≡ sentences_answer speaks file (length list) (length text)
  pub list_after : list' ≡ signers_after file answer list
  pub text_after : text' ≡ text_after speaks file answer text

module _ (speaks : ℕ → ℕ → Bool) (R : Relation) where
  -- The text of a release is written where it fits, and so are its signers: both from their starts, and both counts are
  -- given; what follows stays.
  abbrev pub ReleaseWritten : Type 0
  ReleaseWritten =
      (file list list' text text' : List ℕ) (answer : SentencesVerdict) → Call speaks file list list' text text' answer
      → (r : Release R file (length list)) → length (proof_text r.is_proof) ≤ length text
      → (answer ≡ Written (length r.names) (length (proof_text r.is_proof)))
      × (list' ≡ r.names ++ drop (length r.names) list)
      × (text' ≡ proof_text r.is_proof ++ drop (length (proof_text r.is_proof)) text)

  -- Else the file is refused by the first reason, with its place, and nothing that is lent changes.
  abbrev pub ElseRefused : Type 0
  ElseRefused =
      (file list list' text text' : List ℕ) (answer : SentencesVerdict) → Call speaks file list list' text text' answer
      → ¬ ((r : Release R file (length list)) × (length (proof_text r.is_proof) ≤ length text))
      → (number : ℕ) × (place : ℕ)
      × FirstReason sentences_order (SentencesReason speaks R file (length list) (length text)) number place
      × (answer ≡ Refused number place)
      × (list' ≡ list)
      × (text' ≡ text)
