-- Complete: the words of derivations close the obligations, and give the derivations' lines. By recursion on the
-- derivation. Assumes nothing.
use Prim.Native.Nat.{ℕ, suc, ◌+◌, ◌≤◌}
use native.Mathlib.Omega.{arith}
use mathlib.Core.Bool.{Bool}
use mathlib.Core.Path.{refl}
use mathlib.Core.List.{List, [], ◌∷◌}
use lib.ListN.{length}
use borrow.Author.Tests.{eq-eqb}
use Rattle.basics.specs.Membership.{◌∈◌}
use Rattle.basics.proofs.Membership.{first, added}
use Rattle.basics.specs.Limits.{most_formulas}
use Rattle.logic.specs.Proposition.{Proposition, atom, false, ◌implies◌, ◌and◌, ◌or◌, ◌says◌}
use Rattle.logic.specs.Judgment.{Judgment, truth, ◌affirms◌}
use Rattle.logic.specs.Principals.{Relation, Decides}
use Rattle.logic.specs.Derivation.{Derivation, init, affirm, implies_right, implies_left, false_left, and_right, and_left, or_right_first, or_right_second, or_left, says_right, says_left}
use Rattle.logic.specs.Depth.{depth}
use Rattle.logic.proofs.Depth.{steps}
use Rattle.table.specs.declared.entry.Entry.{Entry}
use Rattle.table.specs.Number.{number}
use Rattle.table.specs.Laws.{Ordered, Distinct}
use Rattle.steps.specs.Obligation.{Obligation, alone, adding, adding_both}
use Rattle.steps.specs.Words.{words}
use Rattle.steps.specs.Carried.{Carried, InTable}
use Rattle.steps.specs.Runs.{Closes}
use Rattle.steps.specs.Trace.{lines, lines_of}
use Rattle.steps.proofs.Uses.{Uses, nothing, joined, closed, one, two, closes}
use Rattle.steps.proofs.Has.{Passed, formula_of, entry_of}
use Rattle.steps.proofs.Asks.{goal_of, Asks, asks_alone, asks_adding, asks_adding_both, asks_spelled}
use Rattle.steps.proofs.Taken.{taken_plain, taken_named}

module _ (speaks : ℕ → ℕ → Bool) (R : Relation) (decides : Decides speaks R) (limit : ℕ) {es : List Entry} (t : Passed es) where
  -- A derivation's words prove an obligation that asks for what it derives, where no step is too deep, and give its
  -- lines. At each rule: the entry that the rule needs, the premises that its step opens, and that each asks for what
  -- the premise's derivation derives.
  derived : {Γ : List Proposition} {γ : Judgment} (D : Derivation R Γ γ) (o : Obligation) → Asks es o Γ γ → o.depth + depth D ≤ suc limit
      → Uses speaks limit es (words (number es) D) (lines D) (o ∷ [])
  derived (init {a = a} m) o q d =
      let is = entry_of t (atom a) q.has_goal in
      closed (taken_named speaks t q (omega arith) 0 refl m) (rw (is, eq-eqb (number es (atom a)) (number es (atom a)) refl))
  derived (affirm {A = A} D) o q d =
      one (alone (goal_of es (truth A))) (taken_plain speaks t q (omega arith) 1 refl) refl (derived D _ (asks_alone q q.has_goal) (omega arith))
  derived (implies_right {A = A} {B = B} D) o q d =
      let (is, a, b) = entry_of t (A implies B) q.has_goal in
      one (adding (goal_of es (truth B)) (formula_of es A)) (taken_plain speaks t q (omega arith) 2 refl) (rw is)
      (derived D _ (asks_adding q b a) (omega arith))
  derived (implies_left {γ = γ} {A = A} {B = B} m D E) o q d =
      let (is, a, b) = entry_of t (A implies B) (q.all_held _ m).has_it in
      two (alone (goal_of es (truth A))) (adding (goal_of es γ) (formula_of es B)) (taken_named speaks t q (omega arith) 3 refl m) (rw is)
      (derived D _ (asks_alone q a) (omega arith)) (derived E _ (asks_adding q q.has_goal b) (omega arith))
  derived (false_left m) o q d =
      let is = entry_of t false (q.all_held _ m).has_it in
      closed (taken_named speaks t q (omega arith) 4 refl m) (rw is)
  derived (and_right {A = A} {B = B} D E) o q d =
      let (is, a, b) = entry_of t (A and B) q.has_goal in
      two (alone (goal_of es (truth A))) (alone (goal_of es (truth B))) (taken_plain speaks t q (omega arith) 5 refl) (rw is)
      (derived D _ (asks_alone q a) (omega arith)) (derived E _ (asks_alone q b) (omega arith))
  derived (and_left {γ = γ} {A = A} {B = B} m D) o q d =
      let (is, a, b) = entry_of t (A and B) (q.all_held _ m).has_it in
      one (adding_both (goal_of es γ) (formula_of es A) (formula_of es B)) (taken_named speaks t q (omega arith) 6 refl m) (rw is)
      (derived D _ (asks_adding_both q q.has_goal a b) (omega arith))
  derived (or_right_first {A = A} {B = B} D) o q d =
      let (is, a, b) = entry_of t (A or B) q.has_goal in
      one (alone (goal_of es (truth A))) (taken_plain speaks t q (omega arith) 7 refl) (rw is) (derived D _ (asks_alone q a) (omega arith))
  derived (or_right_second {A = A} {B = B} D) o q d =
      let (is, a, b) = entry_of t (A or B) q.has_goal in
      one (alone (goal_of es (truth B))) (taken_plain speaks t q (omega arith) 8 refl) (rw is) (derived D _ (asks_alone q b) (omega arith))
  derived (or_left {γ = γ} {A = A} {B = B} m D E) o q d =
      let (is, a, b) = entry_of t (A or B) (q.all_held _ m).has_it in
      two (adding (goal_of es γ) (formula_of es A)) (adding (goal_of es γ) (formula_of es B)) (taken_named speaks t q (omega arith) 9 refl m) (rw is)
      (derived D _ (asks_adding q q.has_goal a) (omega arith)) (derived E _ (asks_adding q q.has_goal b) (omega arith))
  derived (says_right {K = K} {A = A} D) o q d =
      let (is, a) = entry_of t (K says A) q.has_goal in
      one (alone (goal_of es (K affirms A))) (taken_plain speaks t q (omega arith) 10 refl) (rw is) (derived D _ (asks_alone q a) (omega arith))
  derived (says_left {K = K} {L = L} {A = A} {C = C} m r D) o q d =
      let (is, a) = entry_of t (K says A) (q.all_held _ m).has_it in
      one (adding (goal_of es (L affirms C)) (formula_of es A)) (taken_named speaks t q (omega arith) 11 refl m) (rw (is, (decides K L).1 r))
      (derived D _ (asks_adding q q.has_goal a) (omega arith))

  -- one derivation after the other
  pub carried : (os : List Obligation) → ((o : Obligation) → o ∈ os → InTable es o) → (ws : List ℕ) (c : Carried R limit es os ws)
      → Uses speaks limit es ws (lines_of R limit es os ws c) os
  carried [] i ws e = rw e nothing
  carried (o ∷ os) i ws (rest, (proved, more)) =
      rw proved.begins
      (joined
      (derived proved.derivation o (asks_spelled t (i o first)) ((steps o.depth proved.derivation).reach limit proved.within))
      (carried os (λ p m. i p (added o p m)) rest more))

pub complete : (speaks : ℕ → ℕ → Bool) (R : Relation) → Decides speaks R → (limit : ℕ) (es : List Entry)
    → length es ≤ most_formulas → Ordered es → Distinct es → (os : List Obligation) → ((o : Obligation) → o ∈ os → InTable es o)
    → (ws : List ℕ) → Carried R limit es os ws → Closes speaks limit es os ws
complete speaks R decides limit es few ordered distinct os i ws c =
    closes (carried speaks R decides limit record { few = few; ordered = ordered; distinct = distinct } os i ws c)
