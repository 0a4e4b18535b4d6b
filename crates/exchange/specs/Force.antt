-- Demand 3 over a table: its first two sentences, and its last. "A list over a table is any count of numbers below F,
-- none too, in a table where 4 finds no fault; each number stands for the formula that its entry spells out." (01) What
-- is promised here holds for all tables and all lists of numbers, so for these lists too, also where a table repeats an
-- entry: what counts is the proposition that a number spells. For every relation on principals that is reflexive and
-- transitive, and so for Figure 1 (Figure1.antt). Proved in proofs/Force.antt. Assumes nothing.
use Rattle.std.specs.Prelude.{ℕ, ◌↔◌, List, ◌++◌}
use Rattle.basics.specs.Membership.{◌∈◌, ◌⊆◌}
use Rattle.logic.specs.Principals.{Relation}
use Rattle.logic.specs.Force as Logic
use Rattle.logic.specs.Force.{HasProof}
use Rattle.table.specs.declared.entry.Entry.{Entry}
use Rattle.table.specs.Spelled.{spell, spell_all}

module _ (R : Relation) where
  -- "Equal in force means that every formula, in the table or not, with a proof of any size from one list has a proof
  -- of any size from the other." (demand 3) Every proposition counts: see logic/specs/Force.antt.
  abbrev pub EqualInForce : List Entry → List ℕ → List ℕ → Type 0
  EqualInForce es first second = Logic.EqualInForce R (spell_all es first) (spell_all es second)

  -- each statement of the first list has a proof, of any size, from the second
  abbrev pub EachHasProof : List Entry → List ℕ → List ℕ → Type 0
  EachHasProof es first second = (n : ℕ) → n ∈ first → HasProof R (spell_all es second) (spell es n)

  -- "Any two lists of statements over one table, of whatever length, are equal in force exactly when each statement of
  -- either list has a proof, of any size, from the other." (demand 3)
  abbrev pub ForceByStatements : Type 0
  ForceByStatements =
      (es : List Entry) (first second : List ℕ) → EqualInForce es first second
      ↔ (EachHasProof es first second × EachHasProof es second first)

  -- "The goal of every old release must then keep a proof, of any size, from it and the same signed papers." (demand 3)
  -- A release has statements among the old orders and the signed papers, in any order and any number.
  abbrev pub GoalKept : Type 0
  GoalKept =
      (es : List Entry) (old new papers statements : List ℕ) (goal : ℕ) → EqualInForce es old new
      → statements ⊆ old ++ papers
      → HasProof R (spell_all es statements) (spell es goal) → HasProof R (spell_all es (new ++ papers)) (spell es goal)
