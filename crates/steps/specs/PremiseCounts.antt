-- How many premises a rule has: the last column of 01's table, counted. The code has it as `premise_count` of the crate
-- `premises`. Proved in proofs/PremiseCounts.antt. Assumes nothing.
use Rattle.std.specs.Prelude.{ℕ, Bool, ◌≡◌, List, [], ◌∷◌, ◌++◌, length}
use Rattle.std.proofs.Math.Option.{some}
use Rattle.std.proofs.Math.ListN.{get_elem?}
use Rattle.basics.specs.Word.{upper}
use Rattle.logic.specs.Proposition.{Proposition}
use Rattle.logic.specs.Judgment.{Judgment}
use Rattle.logic.specs.Principals.{Relation}
use Rattle.logic.specs.Derivation.{Derivation, init, affirm, implies_right, implies_left, false_left, and_right, and_left, or_right_first, or_right_second, or_left, says_right, says_left}
use Rattle.table.specs.declared.entry.Entry.{Entry}
use Rattle.steps.specs.declared.opened.Premise.{Premise}
use Rattle.steps.specs.Obligation.{Obligation}
use Rattle.steps.specs.Step.{rules, step}
use Rattle.steps.specs.Steps.{premises}
use Rattle.steps.specs.Trace.{Line, lines}

-- In the order of the codes: init, affirm, implies right, implies left, false left, and right, and left, or right
-- first, or right second, or left, says right, says left.
abbrev pub premise_counts : List ℕ
premise_counts = 0 ∷ 1 ∷ 1 ∷ 2 ∷ 0 ∷ 2 ∷ 1 ∷ 1 ∷ 1 ∷ 2 ∷ 1 ∷ 1 ∷ []

-- ---- of steps

-- There is a count for each rule of the machine, and no other.
abbrev pub CountPerRule : (ℕ → ℕ → Bool) → Type 0
CountPerRule speaks = (es : List Entry) → length premise_counts ≡ length (rules speaks es)

-- A step that isn't refused opens as many premises as the row of its code has: for every table, obligation and word.
abbrev pub PremisesCounted : (ℕ → ℕ → Bool) → Type 0
PremisesCounted speaks =
    (limit : ℕ) (es : List Entry) (w : ℕ) (o : Obligation) (ps : List Premise)
    → premises (step speaks es limit w o) ≡ some ps → get_elem? premise_counts (upper w) ≡ some (length ps)

-- ---- of derivations

-- a derivation, whatever it derives
pub record Derived (R : Relation) : Type 0 where
  pub hypotheses : List Proposition
  pub goal : Judgment
  pub derivation : Derivation R hypotheses goal

module _ {R : Relation} where
  abbrev pub derived : {Γ : List Proposition} {γ : Judgment} → Derivation R Γ γ → Derived R
  derived {Γ = Γ} {γ = γ} D = record { hypotheses = Γ; goal = γ; derivation = D }

  -- the immediate subderivations: one for each premise of the last rule, in order
  abbrev pub subderivations : {Γ : List Proposition} {γ : Judgment} → Derivation R Γ γ → List (Derived R)
  subderivations (init m) = []
  subderivations (affirm D) = derived D ∷ []
  subderivations (implies_right D) = derived D ∷ []
  subderivations (implies_left m D E) = derived D ∷ derived E ∷ []
  subderivations (false_left m) = []
  subderivations (and_right D E) = derived D ∷ derived E ∷ []
  subderivations (and_left m D) = derived D ∷ []
  subderivations (or_right_first D) = derived D ∷ []
  subderivations (or_right_second D) = derived D ∷ []
  subderivations (or_left m D E) = derived D ∷ derived E ∷ []
  subderivations (says_right D) = derived D ∷ []
  subderivations (says_left m r D) = derived D ∷ []

  -- the lines of derivations, one after the other
  unfoldable pub lines_of_all : List (Derived R) → List Line
  lines_of_all [] = []
  lines_of_all (D ∷ Ds) = lines D.derivation ++ lines_of_all Ds

-- A derivation has as many immediate subderivations as the row of its last rule has premises. The last rule, the lowest
-- in Figure 1, is the first step: its line comes first, and the lines of the subderivations, in order, are the rest.
abbrev pub PremisesOfDerivation : Relation → Type 0
PremisesOfDerivation R =
    (Γ : List Proposition) (γ : Judgment) (D : Derivation R Γ γ)
    → (lowest : Line) × (lines D ≡ lowest ∷ lines_of_all (subderivations D))
    × (get_elem? premise_counts lowest.code ≡ some (length (subderivations D)))
