-- A granted record's text is that of the derivation that its words are, and two of them are equal exactly when goals,
-- rules and named formulas are the same (specs/Promises.antt). Assumes nothing.
use mathlib.Core.Bool.{Bool}
use mathlib.Core.Path.{◌≡◌, sym, ap, ◌∙◌}
use mathlib.Core.List.{List, [], ◌∷◌, map}
use Prim.Native.Nat.{ℕ}
use Rattle.basics.specs.Limits.{most_depth}
use Rattle.logic.specs.Proposition.{Proposition, false}
use Rattle.logic.specs.Judgment.{Judgment, truth, ◌affirms◌}
use Rattle.logic.specs.Principals.{Relation, Decides}
use Rattle.steps.specs.Obligation.{obligation}
use Rattle.steps.specs.Trace.{Line}
use Rattle.steps.proofs.Trace.{line_per_word}
use Rattle.record.specs.Layout.{goal, statements, steps, table}
use Rattle.record.specs.Proof.{goal_of, IsProof}
use Rattle.record.proofs.IsProof.{closes_on_proof, lines_of_proof}
use Rattle.sentences.specs.Sentences.{sentences}
use Rattle.sentences.specs.Promises.{proof_lines, TextOfDerivation, LinePerStep, rule_applied, SameLines, SameText}
use Rattle.sentences.proofs.Told.{sentences_told}
use Rattle.sentences.proofs.Lines.{goals, first_or, known, first_goal, determined}

module _ (speaks : ℕ → ℕ → Bool) (R : Relation) (decides : Decides speaks R) where
  pub text_of_derivation : TextOfDerivation speaks R
  text_of_derivation file keeps p = ap sentences (lines_of_proof speaks R decides file keeps p)

  pub line_per_step : LinePerStep speaks R
  line_per_step file keeps p =
      line_per_word speaks most_depth (table file) (obligation (statements file) (goal file) ∷ []) (steps file)
      ((closes_on_proof speaks R decides file keeps).1 p)

proved : Judgment → Proposition
proved (truth A) = A
proved (K affirms A) = A

-- The first line has the record's goal.
goal_told : {R : Relation} {file other : List ℕ} (p : IsProof R file) (q : IsProof R other)
    → proof_lines p ≡ proof_lines q → goal_of file
    ≡ goal_of other
unfolding proved
goal_told p q e =
    ap proved
    (sym (first_goal p.derivation (truth false))
    ∙ ap (λ (ls : List Line). first_or (truth false) (goals ls)) e
    ∙ first_goal q.derivation (truth false))

pub same_lines : (R : Relation) → SameLines R
same_lines R file other p q s = determined p.derivation q.derivation (ap truth s.same_goal) s.same_steps

pub same_text : (R : Relation) → SameText R
same_text R file other room room' count count' g h =
    let p = g.is_proof in
    let q = h.is_proof in (
      λ e.
          let same = sentences_told (proof_lines p) (proof_lines q) (known p.derivation) (known q.derivation) e in
          record { same_goal = goal_told p q same; same_steps = ap (map rule_applied) same },
      λ s. ap sentences (same_lines R file other p q s),
    )
