-- Demands 1 and 2 in plain words: what a record is "that keeps the layout and its limits, whose words are a proof of
-- its goal". Assumes nothing.
use Rattle.std.specs.Prelude.{ℕ, ◌≤◌, ◌<◌, ◌≡◌, ◌↔◌, List, length}
use Rattle.basics.specs.Membership.{◌∈◌}
use Rattle.basics.specs.Limits.{most_formulas, most_statements, most_steps, most_depth}
use Rattle.file.specs.Layout.{AllFit}
use Rattle.logic.specs.Proposition.{Proposition}
use Rattle.logic.specs.Judgment.{truth}
use Rattle.logic.specs.Principals.{Relation}
use Rattle.logic.specs.Derivation.{Derivation}
use Rattle.logic.specs.Depth.{step_depths}
use Rattle.table.specs.Laws.{Ordered, NoneRepeated}
use Rattle.table.specs.Spelled.{spell, spell_all}
use Rattle.table.specs.Number.{number}
use Rattle.steps.specs.Words as Derived
use Rattle.record.specs.Layout.{record_layout, formulas, statement_count, step_count, goal, heads, seconds, statements, steps, size, table}

-- "F formulas (1 to 4,096), S statements (0 to 256), N steps (1 to 16,384)"
pub record InRange (file : List ℕ) : Type 0 where
  pub some_formulas : 1 ≤ formulas file
  pub few_formulas : formulas file ≤ most_formulas
  pub few_statements : statement_count file ≤ most_statements
  pub some_steps : 1 ≤ step_count file
  pub few_steps : step_count file ≤ most_steps

-- These are the layout's ranges. Proved in proofs/LayoutIs.antt.
abbrev pub RangesAre : Type 0
RangesAre = (file : List ℕ) → AllFit record_layout.fields file 0 ↔ InRange file

-- The sizes are in their ranges, and the length is theirs: 1 to 3 don't apply.
pub record Sized (file : List ℕ) : Type 0 where
  pub in_range : InRange file
  pub length_is : length file ≡ size file

-- "keeps the layout and its limits": 1 to 7 don't apply
pub record Keeps (file : List ℕ) : Type 0 where
  pub sized : Sized file
  pub ordered : Ordered (table file)
  pub none_repeated : NoneRepeated (heads file) (seconds file)
  pub goal_in : goal file < formulas file
  pub statements_in : (n : ℕ) → n ∈ statements file → n < formulas file

-- what the statements' numbers spell, and what the goal's number spells
abbrev pub stated_by : List ℕ → List Proposition
stated_by file = spell_all (table file) (statements file)

abbrev pub goal_of : List ℕ → Proposition
goal_of file = spell (table file) (goal file)

-- "whose words are a proof of its goal": a derivation of what the goal spells, from what the statements spell. Its
-- words are the step words, and none of its steps is deeper than 512. "A proof is a derivation in Figure 1" (demand 2):
-- there R is equality (Figure1.antt).
pub record IsProof (R : Relation) (file : List ℕ) : Type 0 where
  pub derivation : Derivation R (stated_by file) (truth (goal_of file))
  pub within : (d : ℕ) → d ∈ step_depths 1 derivation → d ≤ most_depth
  pub words : steps file ≡ Derived.words (number (table file)) derivation
