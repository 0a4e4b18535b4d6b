-- "Signers shall stand in rising principal number. Their order is then no longer a free part, and a granted record has
-- one possible line." (02, job 1) For a test `speaks` on principals and a relation R. Proved in proofs/Order.antt.
-- Assumes nothing.
use Rattle.std.specs.Prelude.{ℕ, Bool, ◌≡◌, ◌↔◌, List, length, take}
use Rattle.basics.specs.Membership.{◌∈◌}
use Rattle.basics.specs.Once.{EachOnce}
use Rattle.logic.specs.Principals.{Relation}
use Rattle.table.specs.declared.entry.Entry.{Entry}
use Rattle.signers.specs.Signers.{signers}
use Rattle.signers.specs.Each.{Signs}
use Rattle.record.specs.Verdict.{RecordVerdict}
use Rattle.record.specs.Answer.{record_answer}
use Rattle.record.specs.ListAfter.{list_after}
use Rattle.line.specs.RecordLine.{record_line}
use Rattle.line.specs.Printed.{Grants}
use Rattle.demands.specs.Release.{Signers, Release, GrantedWithSigners}

module _ (speaks : ℕ → ℕ → Bool) (R : Relation) where
  -- A call that grants a file with a count leaves so many words at the start of the list, and these are the signers in
  -- rising number, whatever list is lent.
  abbrev pub SignersRise : Type 0
  SignersRise =
      (file before after : List ℕ) (answer : RecordVerdict) (g : Grants speaks file before after answer)
      → Signers R file (take g.count after) × (length (take g.count after) ≡ g.count)

  -- Every call on a release is such a call.
  abbrev pub ReleaseGrants : Type 0
  ReleaseGrants =
      (file before after : List ℕ) (answer : RecordVerdict)
      → answer ≡ record_answer speaks file (length before) → after ≡ list_after file answer before
      → Release R file (length before) → Grants speaks file before after answer

module _ (R : Relation) where
  -- No two lists are a file's signers,
  abbrev pub OrderNotFree : Type 0
  OrderNotFree = (file names others : List ℕ) → Signers R file names → Signers R file others → names ≡ others

  -- so whatever grants a file with its signers, as demand 1 has it, whoever it is and whatever list is lent, has the
  -- same line.
  abbrev pub OnePossibleLine : Type 0
  OnePossibleLine =
      (file before after before' after' : List ℕ) (answer answer' : RecordVerdict)
      → GrantedWithSigners R file answer before after → GrantedWithSigners R file answer' before' after'
      → record_line answer after ≡ record_line answer' after'

-- What stays: 01 asked for the signers "each once, in any order". In any order there are as many, so their order makes
-- no other count for 8 and for a grant.
abbrev pub CountStays : Type 0
CountStays =
    (es : List Entry) (statements named ks : List ℕ) → ((K : ℕ) → K ∈ ks ↔ Signs es statements named K) → EachOnce ks
    → length ks ≡ length (signers es statements named)
