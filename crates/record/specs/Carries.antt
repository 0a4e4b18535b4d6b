-- Who carried a release, over propositions and the derivation that a file's words are. "A signer is now a principal K
-- with a statement K says A that some says-left step names." (02, job 3) Proved in proofs/Carries.antt. Assumes
-- nothing.
use Rattle.std.specs.Prelude.{ℕ, ◌↔◌, List}
use Rattle.basics.specs.Membership.{◌∈◌}
use Rattle.logic.specs.Proposition.{Proposition, ◌says◌}
use Rattle.logic.specs.Principals.{Relation}
use Rattle.logic.specs.Named.{says_left_names}
use Rattle.record.specs.Layout.{signers}
use Rattle.record.specs.Proof.{Keeps, stated_by, IsProof}

-- K says A is among what the statements spell, and some step of the derivation is a says left that names it.
pub record Carries {R : Relation} {file : List ℕ} (p : IsProof R file) (K : ℕ) : Type 0 where
  pub said : Proposition
  pub stated : (K says said) ∈ stated_by file
  pub named : (K says said) ∈ says_left_names p.derivation

-- The signers of a file that keeps the layout and whose words are a proof are those who carried.
abbrev pub SignersCarry : Relation → Type 0
SignersCarry R =
    (file : List ℕ) → Keeps file → (p : IsProof R file) → (K : ℕ) → K ∈ signers file ↔ Carries p K
