-- "Its step words are, word for word, those of derivations for every position in the order above, with nothing between
-- them and nothing after", and "no step of these proofs is deeper than 10 allows" (01, for exchange files; a record has
-- one derivation). Assumes nothing.
use Rattle.std.specs.Prelude.{ℕ, ◌≤◌, ◌<◌, ◌≡◌, List, [], ◌∷◌, ◌++◌, length}
use Rattle.basics.specs.Membership.{◌∈◌}
use Rattle.logic.specs.Judgment.{Judgment, truth, ◌affirms◌}
use Rattle.logic.specs.Principals.{Relation}
use Rattle.logic.specs.Derivation.{Derivation}
use Rattle.logic.specs.Depth.{step_depths}
use Rattle.table.specs.declared.entry.Entry.{Entry}
use Rattle.table.specs.Spelled.{spell, spell_all}
use Rattle.table.specs.Number.{number}
use Rattle.steps.specs.declared.goal.Goal.{Goal}
use Rattle.steps.specs.declared.goal.Goal.TheVariants.{True, Affirms}
use Rattle.steps.specs.Obligation.{Obligation}
use Rattle.steps.specs.Words.{words}

-- the judgment that a goal spells out
abbrev pub judgment : List Entry → Goal → Judgment
judgment es (True f) = truth (spell es f.0)
judgment es (Affirms k f) = k.0 affirms spell es f.0

-- A derivation of an obligation: no step is deeper than the limit, and ws begins with its words, after which `rest`
-- follows.
pub record Proved (R : Relation) (limit : ℕ) (es : List Entry) (o : Obligation) (ws rest : List ℕ) : Type 0 where
  pub derivation : Derivation R (spell_all es o.hypotheses) (judgment es o.goal)
  pub within : (d : ℕ) → d ∈ step_depths o.depth derivation → d ≤ limit
  pub begins : ws ≡ words (number es) derivation ++ rest

-- A derivation for each obligation, in order, whose words one after the other are ws.
abbrev pub Carried : Relation → ℕ → List Entry → List Obligation → List ℕ → Type 0
Carried R limit es [] ws = ws ≡ []
Carried R limit es (o ∷ os) ws = (rest : List ℕ) × (Proved R limit es o ws rest × Carried R limit es os rest)

-- the number of a goal's formula
abbrev pub goal_formula : Goal → ℕ
goal_formula (True f) = f.0
goal_formula (Affirms k f) = f.0

-- All numbers of an obligation are below F: 6 and 7 see to that.
pub record InTable (es : List Entry) (o : Obligation) : Type 0 where
  pub hypotheses_in : (n : ℕ) → n ∈ o.hypotheses → n < length es
  pub goal_in : goal_formula o.goal < length es
