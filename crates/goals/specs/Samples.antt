-- Samples of the goals that are kept. Proved in proofs/Samples.antt, by computation. Assumes nothing.
use Rattle.std.specs.Prelude.{ℕ, suc, ◌*◌, ◌≡◌, List, [], ◌∷◌, length, replicate}
use Rattle.basics.specs.Limits.{most_depth}
use Rattle.table.specs.declared.entry.Entry.{Entry}
use Rattle.table.specs.Tests.{entries}
use Rattle.goals.specs.declared.kept.Kept.{Kept}
use Rattle.goals.specs.Goals.{kept, goals_of}

-- a table, the goal, the step words, and the goals of the steps
pub record Sample : Type 0 where
  pub table : List Entry
  pub goal : ℕ
  pub steps : List ℕ
  pub goals : List Kept

abbrev pub Holds : Sample → Type 0
Holds s = goals_of s.table s.steps s.goal ≡ s.goals

-- record A of document 01: 7 says atom 0; atom 0 by 7's affirmation
abbrev pub A : Sample
A = record {
  table = entries (0 ∷ 20487 ∷ []) (0 ∷ 0 ∷ []);
  goal = 1;
  steps = 40960 ∷ 45057 ∷ 4096 ∷ 0 ∷ [];
  goals = kept 1 0 ∷ kept 1 1 ∷ kept 1 1 ∷ kept 0 0 ∷ [];
}

-- The first premise comes first. And right: atom 0 and atom 1; each of them.
abbrev pub and_right : Sample
and_right = record {
  table = entries (0 ∷ 1 ∷ 12288 ∷ []) (0 ∷ 0 ∷ 1 ∷ []);
  goal = 2;
  steps = 20480 ∷ 0 ∷ 1 ∷ [];
  goals = kept 2 0 ∷ kept 0 0 ∷ kept 1 0 ∷ [];
}

-- Implies left under an affirmation: 7 says atom 1, by atom 0 implies atom 1. The second premise has the affirmation
-- as its goal again.
abbrev pub implies_left : Sample
implies_left = record {
  table = entries (0 ∷ 1 ∷ 8192 ∷ 20487 ∷ []) (0 ∷ 0 ∷ 1 ∷ 1 ∷ []);
  goal = 3;
  steps = 40960 ∷ 12290 ∷ 0 ∷ 4096 ∷ 1 ∷ [];
  goals = kept 3 0 ∷ kept 3 1 ∷ kept 0 0 ∷ kept 3 1 ∷ kept 1 0 ∷ [];
}

-- A refusal ends them: says left on a truth.
abbrev pub refused : Sample
refused = record {
  table = entries (0 ∷ 20487 ∷ []) (0 ∷ 0 ∷ []);
  goal = 1;
  steps = 45057 ∷ 0 ∷ [];
  goals = kept 1 0 ∷ [];
}

-- Atom 0 by implies left of atom 0 implies atom 0, over and over: one goal more waits each time, and the last is the
-- one behind which as many wait as a step may be deep.
abbrev pub MostWait : Type 0
MostWait = length (goals_of (entries (0 ∷ 8192 ∷ []) (0 ∷ 0 ∷ [])) (replicate (2 * most_depth) 12289) 0) ≡ suc most_depth
