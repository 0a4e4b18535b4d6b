-- The limits of 01 as they bear on derivations, in its own numbers: "F formulas (1 to 4,096), S statements (0 to 256),
-- N steps (1 to 16,384)", "depth is at most 512", "Atoms and principals are numbered 0 to 4,095". They stand here a
-- second time, so that what is asked of a derivation can be read without any definition of a file. Assumes nothing.
use Rattle.std.specs.Prelude.{ℕ, ◌≤◌, List, [], ◌∷◌, length}
use Rattle.basics.specs.Membership.{◌∈◌, ◌⊆◌}
use Rattle.logic.specs.Proposition.{Proposition, atom, false, ◌implies◌, ◌and◌, ◌or◌, ◌says◌}

-- "Atoms and principals are numbered 0 to 4,095"
abbrev pub LowNumber : ℕ → Type 0
LowNumber n = n ≤ 4095

-- the atom's or principal's number that a proposition itself has fits
abbrev pub NumberFits : Proposition → Type 0
NumberFits (atom a) = LowNumber a
NumberFits false = Unit
NumberFits (A implies B) = Unit
NumberFits (A and B) = Unit
NumberFits (A or B) = Unit
NumberFits (K says A) = LowNumber K

-- the operands of a proposition
abbrev pub operands : Proposition → List Proposition
operands (atom a) = []
operands false = []
operands (A implies B) = A ∷ B ∷ []
operands (A and B) = A ∷ B ∷ []
operands (A or B) = A ∷ B ∷ []
operands (K says A) = A ∷ []

-- a list that has the operands of all that it has
abbrev pub HasOperands : List Proposition → Type 0
HasOperands formulas = (B C : Proposition) → B ∈ formulas → C ∈ operands B → C ∈ formulas

-- "F formulas (1 to 4,096)"; a goal is one at least, and two empty lists get an atom (Exchange.antt, `or_atom`)
abbrev pub FewEntries : ℕ → Type 0
FewEntries n = n ≤ 4096

-- Some list of at most so many holds the given propositions, their operands, the operands of these, and so on; and
-- every number in it fits.
pub record FewFormulas (As : List Proposition) : Type 0 where
  pub formulas : List Proposition
  pub few : FewEntries (length formulas)
  pub holds : As ⊆ formulas
  pub has_operands : HasOperands formulas
  pub numbered : (B : Proposition) → B ∈ formulas → NumberFits B

-- "S statements (0 to 256)"
abbrev pub FewStatements : ℕ → Type 0
FewStatements n = n ≤ 256

-- "N steps (1 to 16,384)"; a derivation has one at least
abbrev pub FewSteps : ℕ → Type 0
FewSteps n = n ≤ 16384

-- "depth is at most 512"
abbrev pub NotDeep : List ℕ → Type 0
NotDeep depths = (d : ℕ) → d ∈ depths → d ≤ 512
