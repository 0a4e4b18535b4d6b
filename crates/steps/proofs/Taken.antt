-- A step that is taken: a word no deeper than the limit opens what the rule of its code opens, if it names nothing or a
-- hypothesis, and its line has that code, what it names and the goal. Assumes nothing.
use Prim.Native.Nat.{ℕ, ◌≤◌, ◌<◌}
use native.Mathlib.Omega.{arith}
use mathlib.Core.Bool.{Bool}
use mathlib.Core.Path.{◌≡◌, refl, ap}
use mathlib.Core.Option.{Option, none, some}
use mathlib.Core.List.{List}
use lib.ListN.{length, get_or}
use borrow.Author.Tests.{le-leb, lt-ltb}
use Rattle.basics.specs.Membership.{◌∈◌}
use Rattle.basics.proofs.Membership.{holds_member}
use Rattle.basics.specs.Word.{word, radix}
use Rattle.basics.proofs.Words.{both_of_word}
use Rattle.logic.specs.Proposition.{Proposition}
use Rattle.logic.specs.Judgment.{Judgment}
use Rattle.table.specs.declared.entry.Entry.{Entry}
use Rattle.table.specs.Number.{number}
use Rattle.steps.specs.declared.goal.Goal.{Goal}
use Rattle.steps.specs.declared.opened.Opened.{Opened}
use Rattle.steps.specs.Obligation.{Obligation}
use Rattle.steps.specs.Step.{Rule, names, plain, unknown, rules, applied, opens, step}
use Rattle.steps.specs.Trace.{line, named_by}
use Rattle.steps.proofs.Uses.{Taken}
use Rattle.steps.proofs.Has.{Passed}
use Rattle.steps.proofs.Asks.{goal_of, Asks, asked}

module _ (speaks : ℕ → ℕ → Bool) {limit : ℕ} {es : List Entry} (t : Passed es) {o : Obligation} {Γ : List Proposition} {γ : Judgment}
    (q : Asks es o Γ γ) (shallow : o.depth ≤ limit) (code : ℕ) where
  -- the rule of this code, with a part: what it names and what it opens
  taken : (part : ℕ) → part < radix → {rule : Rule} {named : Option Proposition} {x : Opened} → get_or (rules speaks es) code unknown ≡ rule
      → named_by es rule part ≡ named → applied speaks es rule o.hypotheses part (goal_of es γ) ≡ x
      → Taken speaks limit es (word code part) (line code named γ) o x
  unfolding step opens
  taken part fits is names_it applies = record {
    has_line = rw ((both_of_word code part fits).0, (both_of_word code part fits).1, is, names_it, asked q);
    opens = rw (le-leb o.depth limit, (both_of_word code part fits).0, (both_of_word code part fits).1, is, q.goal_is, applies);
  }

  -- a rule that names nothing
  pub taken_plain : {rule : Goal → Opened} → get_or (rules speaks es) code unknown ≡ plain rule
      → Taken speaks limit es (word code 0) (line code none γ) o (rule (goal_of es γ))
  taken_plain is = taken 0 (omega arith) is refl refl

  -- a rule that names a hypothesis
  pub taken_named : {rule : ℕ → Goal → Opened} → get_or (rules speaks es) code unknown ≡ names rule → {A : Proposition} → A ∈ Γ
      → Taken speaks limit es (word code (number es A)) (line code (some A) γ) o (rule (number es A) (goal_of es γ))
  taken_named is {A} m =
      let n = number es A in
      let h = q.all_held A m in
      taken n (omega arith) is (ap some h.has_it.spelled)
      (rw (lt-ltb n (length es) h.has_it.below, (holds_member o.hypotheses n).1 h.member))
