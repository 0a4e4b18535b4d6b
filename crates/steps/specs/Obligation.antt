-- An obligation: what is still to be proved. Hypotheses are formula numbers, in the order in which they came. "The
-- first step has depth 1, a premise's step one more than its conclusion's." (01) Goal, Premise and Added are the code's
-- own types. Assumes nothing.
use Rattle.std.specs.Prelude.{ℕ, suc, List, [], ◌∷◌, ◌++◌, map}
use Rattle.table.specs.declared.entry.Formula.{Formula}
use Rattle.table.specs.Entry.{formula}
use Rattle.steps.specs.declared.goal.Goal.{Goal}
use Rattle.steps.specs.declared.goal.Goal.TheVariants.{True}
use Rattle.steps.specs.declared.opened.Added.{Added}
use Rattle.steps.specs.declared.opened.Added.TheVariants.{Nothing, One, Two}
use Rattle.steps.specs.declared.opened.Premise.{Premise}

pub record Obligation : Type 0 where
  pub hypotheses : List ℕ
  pub goal : Goal
  pub depth : ℕ

-- A proof of a formula from statements "has the formula's truth as goal and the list's statements as hypotheses" (01).
abbrev pub obligation : List ℕ → ℕ → Obligation
obligation statements n = record { hypotheses = statements; goal = True (formula n); depth = 1 }

-- A proof of each of these formulas, from the same statements, "in order .. one for every position" (01, "The exchange
-- file").
abbrev pub obligations : List ℕ → List ℕ → List Obligation
obligations statements goals = map (obligation statements) goals

-- a premise: a goal, alone or with hypotheses added
abbrev pub alone : Goal → Premise
alone g = record { goal = g; added = Nothing }

abbrev pub adding : Goal → Formula → Premise
adding g f = record { goal = g; added = One f }

abbrev pub adding_both : Goal → Formula → Formula → Premise
adding_both g f h = record { goal = g; added = Two f h }

-- the numbers that a premise adds
abbrev pub added : Added → List ℕ
added Nothing = []
added (One f) = f.0 ∷ []
added (Two f g) = f.0 ∷ g.0 ∷ []

-- What a premise of o asks to prove. Nothing is taken away: "a formula named by a left rule remains a hypothesis in every premise".
abbrev pub under : Obligation → Premise → Obligation
under o p = record { hypotheses = o.hypotheses ++ added p.added; goal = p.goal; depth = suc o.depth }
