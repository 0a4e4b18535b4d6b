-- The three demands, sentence by sentence, as one promise, for a test `speaks` on principals and a relation R. 00 asks
-- for Figure 1, where these are "the same K" and equality: that is `Demanded` (Figure1.antt). The promise holds for
-- every test that decides a reflexive and transitive relation. Proved in proofs/Demands.antt. Assumes nothing.
--
-- The entry points of the two checks are `check_record` and `check_exchange`; `record_line` and `exchange_line` of
-- `report`, which write a check's line; and `wethrynda_check_record` and `wethrynda_check_exchange` of `ffi`, which give
-- C a check's answer as one number (no two answers have the same: `CodeTells`, `ExchangeCodeTells`). "No entry point
-- leaves a test to its caller": no `pub fn` has a `requires`, and the gate looks; what follows is for every file and
-- every list. Those that 02 added make every test too (crate `requests`); all other public functions are parts: they
-- answer for every input, and make only their own tests.
use Rattle.std.specs.Prelude.{ℕ, Bool, ◌≡◌, ◌↔◌, ◌⊎◌, List, length}
use Rattle.basics.specs.Order.{FirstReason, checking_order}
use Rattle.logic.specs.Principals.{Relation, Lawful}
use Rattle.record.specs.Verdict.{RecordVerdict, Granted}
use Rattle.record.specs.Answer.{record_answer}
use Rattle.record.specs.ListAfter.{list_after}
use Rattle.exchange.specs.Verdict.{ExchangeVerdict}
use Rattle.exchange.specs.Verdict as Exchange
use Rattle.exchange.specs.Answer.{exchange_answer}
use Rattle.exchange.specs.Force as Force
use Rattle.exchange.specs.Promises.{EqualOnlyInForce, NeverSixOrEight}
use Rattle.exchange.specs.Proofs as Proofs
use Rattle.exchange.specs.Reasons as Reasons
use Rattle.encoding.specs.Record.{EveryProofHasARecord, ReleasedExactly}
use Rattle.encoding.specs.Exchange.{EveryExchangeHasAFile, ExchangedExactly}
use Rattle.line.specs.Printed.{LineOfCall, WholeLine, WholeExchangeLine}
use Rattle.demands.specs.Release.{Release, GrantedWithSigners, First, RefusedUntouched}
use Rattle.demands.specs.OldReleases.{KeptByForce, KeptByExchange, OldReleasesKept}

-- The first reason of an exchange file.
abbrev pub FirstOfExchange : (ℕ → ℕ → Bool) → List ℕ → ℕ → ℕ → Type 0
FirstOfExchange speaks file number p = FirstReason checking_order (Reasons.Reason speaks file) number p

-- ---- the demands

-- A call on a record has an answer, and the lent list before and after it; the two hypotheses about them, wherever
-- they stand here, are for Figure 1 the two clauses of the contract of `check_record`. The one about an exchange's
-- answer is the clause of the contract of `check_exchange`.
pub record Demands (speaks : ℕ → ℕ → Bool) (R : Relation) : Type 0 where
  -- "1. A record that keeps the layout and its limits, whose words are a proof of its goal and whose signers fit the
  -- list lent for them, is granted with its signers."
  pub granted :
      (file before after : List ℕ) (answer : RecordVerdict)
      → answer ≡ record_answer speaks file (length before) → after ≡ list_after file answer before
      → Release R file (length before) → GrantedWithSigners R file answer before after
  -- "Every other file, of any bytes and length, is refused by the first reason in the fixed order that applies, with
  -- its place, and the signers' list stays untouched; no entry point leaves a test to its caller."
  pub refused :
      (file before after : List ℕ) (answer : RecordVerdict)
      → answer ≡ record_answer speaks file (length before) → after ≡ list_after file answer before
      → ¬ Release R file (length before) → RefusedUntouched speaks file answer before after
  -- That is: whatever the list's length, a file is a release or has a first reason, never both, and never two first
  -- reasons.
  pub either :
      (file : List ℕ) (room : ℕ)
      → Release R file room ⊎ ((number : ℕ) × (p : ℕ) × First speaks file room number p)
  pub never_both : (file : List ℕ) (room number p : ℕ) → Release R file room → ¬ First speaks file room number p
  pub one_first :
      (file : List ℕ) (room number p other q : ℕ)
      → First speaks file room number p → First speaks file room other q → (number ≡ other) × (p ≡ q)
  -- "2. A proof is a derivation in Figure 1 of Garg and Pfenning's 2006 paper, .. Within the limits, and with a list
  -- long enough for the signers, the checker grants every such proof and nothing else." (`IsProof` has the derivation;
  -- every one is granted by the first field.)
  pub nothing_else :
      (file : List ℕ) (room count : ℕ) (answer : RecordVerdict)
      → answer ≡ record_answer speaks file room → answer ≡ Granted count → Release R file room
  -- "every such proof", from the side of the derivations: each that is within 01's numbers has a record that is granted
  -- with its signers wherever these fit, and some record of a goal and statements is granted exactly when there is such
  -- a derivation.
  pub every_proof : EveryProofHasARecord speaks R
  pub released_exactly : ReleasedExactly speaks R
  -- What `record_line` writes, where there is room for the longest line, is the line of such a call with 256 words
  -- lent.
  pub printed : WholeLine speaks
  pub printed_of_call : LineOfCall speaks
  -- "3. Any two lists of statements over one table, of whatever length, are equal in force exactly when each statement
  -- of either list has a proof, of any size, from the other. Equal in force means that every formula, in the table or
  -- not, with a proof of any size from one list has a proof of any size from the other." (`EqualInForce` is that.)
  pub force_by_statements : Force.ForceByStatements R
  -- "The exchange check says equal exactly for the exchange files within the limits that carry all these proofs,
  pub equal_exactly :
      (file : List ℕ) (answer : ExchangeVerdict) → answer ≡ exchange_answer speaks file
      → answer ≡ Exchange.Equal ↔ (Proofs.Keeps file × Proofs.CarriesAll R file)
  -- and so only for lists equal in force."
  pub equal_only_in_force : EqualOnlyInForce speaks R
  -- As for records: all these proofs of two lists, within 01's numbers, have a file that is found equal, and some file
  -- of two lists is found equal exactly when there are such proofs.
  pub every_exchange : EveryExchangeHasAFile speaks R
  pub exchanged_exactly : ExchangedExactly speaks R
  -- Every other exchange file is refused by its first reason, as for records; "a refusal of the list above without 6
  -- and 8" (01).
  pub exchange_refused :
      (file : List ℕ) (answer : ExchangeVerdict) → answer ≡ exchange_answer speaks file
      → (number p : ℕ) → answer ≡ Exchange.Refused number p ↔ FirstOfExchange speaks file number p
  pub exchange_either :
      (file : List ℕ)
      → (Proofs.Keeps file × Proofs.CarriesAll R file) ⊎ ((number : ℕ) × (p : ℕ) × FirstOfExchange speaks file number p)
  pub exchange_never_both :
      (file : List ℕ) (number p : ℕ) → Proofs.Keeps file × Proofs.CarriesAll R file
      → ¬ FirstOfExchange speaks file number p
  pub never_six_or_eight : NeverSixOrEight speaks
  -- What `exchange_line` writes, where there is room for the longest line, is the line of the answer.
  pub exchange_printed : WholeExchangeLine speaks
  -- ".. and the goal of every old release must then keep a proof, of any size, from it and the same signed papers":
  -- over one table, for lists equal in force, after an exchange, and with the old release's own papers
  pub goal_kept_lem : Force.GoalKept R
  pub kept_by_force : KeptByForce R
  pub kept_by_exchange : KeptByExchange speaks R
  pub old_releases_kept : OldReleasesKept speaks R

abbrev pub ForEveryRelation : Type 1
ForEveryRelation = (speaks : ℕ → ℕ → Bool) (R : Relation) → Lawful speaks R → Demands speaks R
