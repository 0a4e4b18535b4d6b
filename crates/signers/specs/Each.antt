-- What holds of the signers: "each once" (01), "in rising principal number. Their order is then no longer a free part"
-- (02, job 1), "a paper that lay unused makes no signer" (02, job 3). Proved in proofs/. Assumes nothing.
use Rattle.std.specs.Prelude.{ℕ, ◌≤◌, ◌<◌, ◌≡◌, ◌↔◌, List, length}
use Rattle.basics.specs.Membership.{◌∈◌, ◌⊆◌}
use Rattle.basics.specs.Rising.{Rising}
use Rattle.basics.specs.Limits.{most_principals}
use Rattle.logic.specs.Proposition.{Proposition, ◌says◌}
use Rattle.table.specs.declared.entry.Entry.{Entry}
use Rattle.table.specs.declared.entry.Entry.TheVariants.{Says}
use Rattle.table.specs.declared.entry.Formula.{Formula}
use Rattle.table.specs.Entry.{principal}
use Rattle.table.specs.Laws.{Ordered}
use Rattle.table.specs.Spelled.{spell_all}
use Rattle.table.specs.Tests.{entries, entry_at}
use Rattle.signers.specs.Signers.{principals, signers}

-- "a principal K with a statement K says A that some says-left step names" (02, job 3)
pub record Signs (es : List Entry) (statements named : List ℕ) (K : ℕ) : Type 0 where
  pub statement : ℕ
  pub stands : statement ∈ statements
  pub used : statement ∈ named
  pub said : Formula
  pub is : entry_at es statement ≡ Says (principal K) said

-- these are the signers, each once, in rising principal number
pub record AreSigners (es : List Entry) (statements named ks : List ℕ) : Type 0 where
  pub each : (K : ℕ) → K ∈ ks ↔ Signs es statements named K
  pub rising : Rising ks

abbrev pub SignersAre : Type 0
SignersAre =
    (es : List Entry) (statements named : List ℕ) → AreSigners es statements named (signers es statements named)

-- There is one list of which this holds.
abbrev pub OneList : Type 0
OneList =
    (es : List Entry) (statements named ks : List ℕ) → AreSigners es statements named ks
    → ks ≡ signers es statements named

-- There are no more signers than statements.
abbrev pub NoMoreThanStatements : Type 0
NoMoreThanStatements =
    (es : List Entry) (statements named : List ℕ) → length (signers es statements named) ≤ length statements

-- A signer is a principal's number.
abbrev pub SignersArePrincipals : Type 0
SignersArePrincipals =
    (heads seconds statements named : List ℕ) (K : ℕ) → Signs (entries heads seconds) statements named K
    → K < most_principals

-- Lists of statements with the same members have the same signers: "a statement that stands twice" makes no other.
abbrev pub SameSigners : Type 0
SameSigners =
    (es : List Entry) (first second named : List ℕ) → ((n : ℕ) → n ∈ first ↔ n ∈ second)
    → signers es first named ≡ signers es second named

-- ---- of all papers, used or not

-- K is the principal of a statement "of the form K says A" (01).
pub record HasPaper (es : List Entry) (statements : List ℕ) (K : ℕ) : Type 0 where
  pub statement : ℕ
  pub stands : statement ∈ statements
  pub said : Formula
  pub is : entry_at es statement ≡ Says (principal K) said

-- These are the principals, and they rise.
abbrev pub PrincipalsAre : Type 0
PrincipalsAre =
    (es : List Entry) (statements : List ℕ)
    → ((K : ℕ) → K ∈ principals es statements ↔ HasPaper es statements K) × Rising (principals es statements)

-- A signer is one of them, and there are no more signers.
abbrev pub SignersHavePapers : Type 0
SignersHavePapers =
    (es : List Entry) (statements named : List ℕ)
    → (signers es statements named ⊆ principals es statements)
    × (length (signers es statements named) ≤ length (principals es statements))

-- Over propositions: K has a paper exactly when a statement spells K says A, for some A.
pub record SaysSome (es : List Entry) (statements : List ℕ) (K : ℕ) : Type 0 where
  pub said : Proposition
  pub stands : (K says said) ∈ spell_all es statements

abbrev pub SignsSpelled : Type 0
SignsSpelled =
    (es : List Entry) → Ordered es → (statements : List ℕ) (K : ℕ)
    → HasPaper es statements K ↔ SaysSome es statements K
