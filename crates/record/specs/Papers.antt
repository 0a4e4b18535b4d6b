-- What a record of papers alone can't release: "It is to hold for the checker's derivations, with no new program." (02,
-- job 6) For a test `speaks` on principals and the relation R that it decides. Proved in proofs/Papers.antt. Assumes
-- nothing.
use Rattle.std.specs.Prelude.{ℕ, Bool, ◌≡◌, ◌≢◌, ◌↔◌, ◌⊎◌, List, ◌∷◌}
use Rattle.basics.specs.Membership.{◌∈◌}
use Rattle.basics.specs.Word.{word}
use Rattle.logic.specs.Proposition.{Proposition, Atom, atom, false, ◌or◌}
use Rattle.logic.specs.Principals.{Relation}
use Rattle.logic.specs.Force.{HasProof}
use Rattle.logic.specs.Signed.{AllSignedBy, Anybody}
use Rattle.table.specs.declared.entry.Entry.TheVariants.{Says}
use Rattle.table.specs.declared.entry.Formula.{Formula}
use Rattle.table.specs.Entry.{principal}
use Rattle.table.specs.Tests.{entry_at}
use Rattle.table.specs.Number.{number}
use Rattle.steps.specs.Words as Derived
use Rattle.record.specs.Verdict.{Granted}
use Rattle.record.specs.Layout.{statements, steps, table}
use Rattle.record.specs.Answer.{record_answer}
use Rattle.record.specs.Proof.{Keeps, stated_by, goal_of}

-- "all says-formulas, the empty list included"
abbrev pub OnlyPapers : List ℕ → Type 0
OnlyPapers file = AllSignedBy Anybody (stated_by file)

-- By the table: the entry of each statement is what some principal says.
abbrev pub PapersByEntries : Type 0
PapersByEntries =
    (file : List ℕ) → Keeps file
    → OnlyPapers file
    ↔ ((n : ℕ) → n ∈ statements file → (K : ℕ) × (f : Formula) × (entry_at (table file) n ≡ Says (principal K) f))

-- The step words are w and then, to the last, those of a proof of A from the same statements.
pub record Begins (R : Relation) (file : List ℕ) (w : ℕ) (A : Proposition) : Type 0 where
  pub derivation : HasProof R (stated_by file) A
  pub words : steps file ≡ w ∷ Derived.words (number (table file)) derivation

-- The goal is neither an atom nor false, and an or is proved by one of its sides: its first step is or right first, and
-- the others prove the first side, or it is or right second, and they prove the second.
pub record ReleasesNoMore (R : Relation) (file : List ℕ) : Type 0 where
  pub no_atom : (a : Atom) → goal_of file ≢ atom a
  pub no_false : goal_of file ≢ false
  pub or_by_a_side : (A B : Proposition) → goal_of file ≡ A or B
      → Begins R file (word 7 0) A ⊎ Begins R file (word 8 0) B

module _ (speaks : ℕ → ℕ → Bool) (R : Relation) where
  abbrev pub PapersAlone : Type 0
  PapersAlone =
      (file : List ℕ) (room count : ℕ)
      → record_answer speaks file room ≡ Granted count → OnlyPapers file → ReleasesNoMore R file
