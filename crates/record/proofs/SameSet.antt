-- Hypotheses form a set: records that differ only in how often and in which order their statements stand have one
-- answer, and the same signers (specs/Promises.antt, `StatementsAreASet` and `StatedTwice`). Assumes nothing.
use Prim.Native.Nat.{ℕ, ◌<◌}
use mathlib.Core.Bool.{Bool}
use mathlib.Core.Path.{◌≡◌, refl, sym, ap, ap₂, subst, ◌∙◌}
use mathlib.Core.Logic.Iff
use mathlib.Core.List.{List, [], ◌∷◌, ◌++◌}
use lib.ListN.{length}
use Rattle.basics.specs.Membership.{◌∈◌}
use Rattle.basics.specs.Limits.{most_depth}
use Rattle.basics.specs.Refusals.{test}
use Rattle.file.proofs.Outside.{none_outside}
use Rattle.table.specs.declared.entry.Entry.{Entry}
use Rattle.table.specs.Entry.{formula}
use Rattle.table.specs.Tests.{entries}
use Rattle.logic.proofs.Principals.{Decided, decided}
use Rattle.steps.specs.declared.goal.Goal.TheVariants.{True}
use Rattle.steps.specs.Alike.{Alike}
use Rattle.steps.specs.Obligation.{obligation}
use Rattle.steps.specs.Run.{run, walked}
use Rattle.steps.specs.Naming.{named_numbers, is_says_left}
use Rattle.steps.proofs.Alike.{hypotheses_are_a_set}
use Rattle.signers.specs.Signers.{signers as signers_of}
use Rattle.signers.proofs.Each.{same_signers}
use Rattle.record.specs.Layout.{formulas, goal, statements, steps, table, says_left_numbers, signers}
use Rattle.record.specs.Answer.{statement_outside, list_short, tests, step_verdict, record_answer}
use Rattle.record.specs.Proof.{Sized}
use Rattle.record.specs.Promises.{SameButStatements, SameSet, StatementsAreASet, StatedTwice}
use Rattle.record.proofs.SameTests.{same_formulas, same_to_7}
use Rattle.record.proofs.Granted.{granted_exactly}

-- The other way round.
turned_rest : {file other : List ℕ} → SameButStatements file other → SameButStatements other file
turned_rest r = record {
  same_heads = sym r.same_heads;
  same_seconds = sym r.same_seconds;
  same_goal = sym r.same_goal;
  same_steps = sym r.same_steps;
}

turned : {file other : List ℕ} → SameSet file other → SameSet other file
turned s = record { same_rest = turned_rest s.same_rest; same_statements = λ n. Iff.symm (s.same_statements n) }

pub same_table : {file other : List ℕ} → SameButStatements file other → table file ≡ table other
same_table r = ap₂ entries r.same_heads r.same_seconds

module _ (file other : List ℕ) (s : SameSet file other) where
  abbrev rest : SameButStatements file other
  rest = s.same_rest

  -- They have the same signers,
  same_names : signers file ≡ signers other
  same_names =
      same_signers (table file) (statements file) (statements other) (says_left_numbers file) s.same_statements
      ∙ ap₂ (λ (es : List Entry) (ws : List ℕ). signers_of es (statements other) (named_numbers is_says_left ws)) (same_table rest)
      rest.same_steps

  -- as many,
  same_count : length (signers file) ≡ length (signers other)
  same_count = ap length same_names

  -- and the machine comes to the same.
  same_obligation : Alike (obligation (statements file) (goal file)) (obligation (statements other) (goal other))
  same_obligation = record {
    same_goal = ap (λ (n : ℕ). True (formula n)) rest.same_goal;
    same_depth = refl;
    same_set = s.same_statements;
  }

  same_verdict : (speaks : ℕ → ℕ → Bool) → step_verdict speaks file ≡ step_verdict speaks other
  same_verdict speaks =
      hypotheses_are_a_set speaks most_depth (table file) _ _ same_obligation (steps file)
      ∙ ap₂
      (λ (es : List Entry) (ws : List ℕ). run speaks most_depth es ws (obligation (statements other) (goal other) ∷ []))
      (same_table rest) rest.same_steps

  module _ (speaks : ℕ → ℕ → Bool) (fits : Sized file) (fits' : Sized other) (below : (n : ℕ) → n ∈ statements file
      → n < formulas file) (room : ℕ) where
    -- 7 doesn't apply to the other either, since their tables are as long.
    below' : (n : ℕ) → n ∈ statements other → n < formulas other
    below' n m =
        subst (λ (F : ℕ). n < F) (same_formulas fits fits' rest.same_heads) (below n ((s.same_statements n).1 m))

    -- It applies to neither, and the other tests look at what is the same.
    same_tests : tests speaks file room ≡ tests speaks other room
    same_tests =
        let seventh : statement_outside file ≡ statement_outside other =
        (none_outside _ (statements file)).1 below ∙ sym ((none_outside _ (statements other)).1 below') in
        let to_7 = same_to_7 fits fits' rest.same_heads rest.same_seconds rest.same_goal seventh in
        let eighth : list_short file room ≡ list_short other room = cc same_count in
        λ i. to_7 i ++ (walked (same_verdict speaks i) ∷ test 8 (eighth i) ∷ [])

    same_answer : record_answer speaks file room ≡ record_answer speaks other room
    unfolding record_answer
    same_answer = cc (same_tests, same_count)

pub statements_are_a_set : (speaks : ℕ → ℕ → Bool) → StatementsAreASet speaks
statements_are_a_set speaks file other fits fits' s below room =
    same_answer file other s speaks fits fits' below room

pub stated_twice : (speaks : ℕ → ℕ → Bool) → StatedTwice speaks
stated_twice speaks file other fits fits' s = (
  λ room count. (
    λ e.
        let r = (granted_exactly speaks (Decided speaks) (decided speaks) file room count).0 e in
        sym (same_answer file other s speaks fits fits' r.keeps.statements_in room) ∙ e,
    λ e.
        let r = (granted_exactly speaks (Decided speaks) (decided speaks) other room count).0 e in
        sym (same_answer other file (turned s) speaks fits' fits r.keeps.statements_in room) ∙ e,
  ),
  same_names file other s,
)
