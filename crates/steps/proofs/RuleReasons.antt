-- The least reason against a rule, where the rule refuses; and where a rule applies, there is none. Assumes nothing.
use Prim.Native.Nat.{ℕ, ◌≤◌}
use native.Mathlib.Omega.{arith}
use mathlib.Core.Bool.{Bool, true, false, true≢false}
use mathlib.Core.Path.{◌≡◌, refl, sym, ap, ◌∙◌}
use mathlib.Core.Option.{none, some, none-ne-some}
use mathlib.Core.List.{List}
use lib.ListN.{length}
use lib.Dec.{ltb}
use borrow.Author.Tests.{ltb-false}
use Rattle.basics.specs.Membership.{holds}
use Rattle.basics.specs.Choice.{both}
use Rattle.basics.proofs.Membership.{holds_member}
use Rattle.table.specs.declared.entry.Formula.{Formula}
use Rattle.table.specs.declared.entry.Principal.{Principal}
use Rattle.table.specs.declared.entry.Entry.{Entry}
use Rattle.table.specs.declared.entry.Entry.TheVariants.{Says}
use Rattle.table.specs.Tests.{entry_at}
use Rattle.steps.specs.declared.goal.Goal.{Goal}
use Rattle.steps.specs.declared.goal.Goal.TheVariants.{True, Affirms}
use Rattle.steps.specs.declared.opened.Premise.{Premise}
use Rattle.steps.specs.Applies.{Named, Applies, init, affirm, implies_right, implies_left, false_left, and_right, and_left, or_right_first, or_right_second, or_left, says_right, says_left}
use Rattle.steps.specs.Reasons as Kind
use Rattle.steps.specs.Reasons.{kind_of, Row, row_of, GoalFits, AffirmedBy, StepReason, needless_part, not_held, outside, no_rule, other_goal, other_kind, other_atom, not_served}
use Rattle.steps.proofs.Lowest.{Ruled, Least, Past, in_range, lowest_past, past_10, past_11, past_12, past_13, past_14}

-- a goal is the truth of one formula
same_truth : {f f' : Formula} → True f ≡ True f' → f.0 ≡ f'.0
same_truth e = cc

-- an entry that is K's saying is nobody else's
same_says : {k k' : Principal} {a a' : Formula} → Says k a ≡ Says k' a' → k ≡ k'
same_says e = cc

-- a rule that names a formula needs no part 0
ruled : (c : ℕ) {b : Kind.Below} {k : Kind.Kind} → row_of c ≡ some (Kind.row b (some k)) → (n : ℕ) → Ruled c n (Kind.row b (some k))
ruled c {k = k} is n = (is, λ e. absurd (none-ne-some k (sym e)))

module _ {speaks : ℕ → ℕ → Bool} {es : List Entry} {limit depth : ℕ} {hs : List ℕ} (shallow : depth ≤ limit) where
  -- ---- the least reason

  -- a code of 12 or more
  pub no_rule_of : (c n : ℕ) (g : Goal) → 12 ≤ c → Least speaks es limit depth hs c n g 11
  no_rule_of c n g high = record { applies = no_rule refl high; lowest = lowest_past {r = Kind.row Kind.any none} (past_10 shallow) }

  -- a rule that names nothing
  module _ (c : ℕ) (b : Kind.Below) (is : row_of c ≡ some (Kind.row b none)) where
    pub needless : (n : ℕ) (g : Goal) → ¬ (n ≡ 0) → Least speaks es limit depth hs c n g 11
    needless n g part = record { applies = needless_part refl is refl part; lowest = lowest_past {r = Kind.row b none} (past_10 shallow) }

    pub plain_goal : (g : Goal) → ¬ GoalFits es b g → Least speaks es limit depth hs c 0 g 13
    plain_goal g other = record {
      applies = other_goal refl is other;
      lowest = lowest_past (past_12 shallow (is, λ e. refl) (λ k e. absurd (none-ne-some k e)));
    }

  -- a rule that names a formula of kind k
  module _ (c : ℕ) (b : Kind.Below) (k : Kind.Kind) (is : row_of c ≡ some (Kind.row b (some k))) (n : ℕ) where
    -- that is no hypothesis
    pub unheld : (g : Goal) (x y : Bool) → ltb n (length es) ≡ x → holds hs n ≡ y → both x y ≡ false → Least speaks es limit depth hs c n g 12
    unheld g true true e f t = absurd (true≢false t)
    unheld g true false e f t = record {
      applies = not_held refl is refl (λ m. true≢false (sym ((holds_member hs n).1 m) ∙ f));
      lowest = lowest_past (past_11 shallow (ruled c is n));
    }
    unheld g false y e f t = record { applies = outside refl is refl (ltb-false n (length es) e); lowest = lowest_past (past_11 shallow (ruled c is n)) }

    module _ (h : Named es hs n) where
      -- of another kind, or on another goal
      pub named_kind : (g : Goal) → ¬ (kind_of (entry_at es n) ≡ some k) → Least speaks es limit depth hs c n g 13
      named_kind g other = record { applies = other_kind refl is refl other; lowest = lowest_past (past_12 shallow (ruled c is n) (λ k e. h)) }

      pub named_goal : (g : Goal) → ¬ GoalFits es b g → Least speaks es limit depth hs c n g 13
      named_goal g other = record { applies = other_goal refl is other; lowest = lowest_past (past_12 shallow (ruled c is n) (λ k e. h)) }

  -- init names another atom than the goal's
  pub wrong_atom : {n : ℕ} → Named es hs n → (f : Formula) → ¬ (n ≡ f.0) → Least speaks es limit depth hs 0 n (True f) 13
  wrong_atom {n} h f other = record {
    applies = other_atom refl refl refl other;
    lowest = lowest_past (past_12 shallow (ruled 0 refl n) (λ k i. h));
  }

  -- says left names a says-formula of K, and the goal is no affirmation by K
  pub unserved : (n : ℕ) → Named es hs n → (g : Goal) (k : Principal) (a : Formula) → entry_at es n ≡ Says k a
      → ¬ AffirmedBy speaks k g → Least speaks es limit depth hs 11 n g 14
  unserved n h g k a e other = record {
    applies = not_served refl refl e other;
    lowest =
        lowest_past
        (past_13 shallow (ruled 11 refl n) (λ j i. h)
        record { goal_fits = tt; kind_fits = λ j i. ap kind_of e ∙ i; atom_fits = λ z. absurd (omega arith) });
  }

  -- ---- where a rule applies, there is no reason

  module _ (c : ℕ) {g : Goal} (not-11 : ¬ (c ≡ 11)) where
    plain_past : (b : Kind.Below) → row_of c ≡ some (Kind.row b none) → ¬ (c ≡ 0) → GoalFits es b g → Past speaks es limit depth hs 15 c 0 g (Kind.row b none)
    plain_past b is not-0 fits =
        past_14 shallow (is, λ e. refl) (λ k e. absurd (none-ne-some k e))
        record { goal_fits = fits; kind_fits = λ k e. absurd (none-ne-some k e); atom_fits = λ e. absurd (not-0 e) }
        (λ e. absurd (not-11 e))

    named_past : (b : Kind.Below) (k : Kind.Kind) → row_of c ≡ some (Kind.row b (some k)) → {n : ℕ} → Named es hs n
        → GoalFits es b g → kind_of (entry_at es n) ≡ some k → (c ≡ 0 → (f : Formula) → g ≡ True f → n ≡ f.0) → Past speaks es limit depth hs 15 c n g (Kind.row b (some k))
    named_past b k is {n} h fits kind atom =
        past_14 shallow (ruled c is n) (λ j e. h) record { goal_fits = fits; kind_fits = λ j e. kind ∙ e; atom_fits = atom } (λ e. absurd (not-11 e))

  served_past : {n : ℕ} {k l : Principal} {a c : Formula} → Named es hs n → entry_at es n ≡ Says k a → speaks k.0 l.0 ≡ true
      → Past speaks es limit depth hs 15 11 n (Affirms l c) (Kind.row Kind.any (some Kind.says))
  served_past {n} h e t =
      past_14 shallow (ruled 11 refl n) (λ j i. h)
      record { goal_fits = tt; kind_fits = λ j i. ap kind_of e ∙ i; atom_fits = λ z. absurd (omega arith) }
      (λ z k' a' e'. rw (same_says (sym e ∙ e')) at t)

  -- no reason, by a row that has passed all tests
  none_of : {c n : ℕ} {g : Goal} {r : Row} → Past speaks es limit depth hs 15 c n g r → (m : ℕ) → ¬ StepReason speaks es limit depth hs c n g m
  none_of past m why = let l = lowest_past past m why in let (lo, hi) = in_range m why in omega arith

  pub unrefused : {c n : ℕ} {g : Goal} {ps : List Premise} → Applies speaks es hs c n g ps → (m : ℕ) → ¬ StepReason speaks es limit depth hs c n g m
  unrefused (init h e) = none_of (named_past 0 (λ z. omega arith) _ _ refl h (ap kind_of e) (ap kind_of e) (λ z f is. same_truth is))
  unrefused affirm = none_of (plain_past 1 (λ z. omega arith) _ refl (λ z. omega arith) tt)
  unrefused (implies_right e) = none_of (plain_past 2 (λ z. omega arith) _ refl (λ z. omega arith) (ap kind_of e))
  unrefused (implies_left h e) = none_of (named_past 3 (λ z. omega arith) _ _ refl h tt (ap kind_of e) (λ z. absurd (omega arith)))
  unrefused (false_left h e) = none_of (named_past 4 (λ z. omega arith) _ _ refl h tt (ap kind_of e) (λ z. absurd (omega arith)))
  unrefused (and_right e) = none_of (plain_past 5 (λ z. omega arith) _ refl (λ z. omega arith) (ap kind_of e))
  unrefused (and_left h e) = none_of (named_past 6 (λ z. omega arith) _ _ refl h tt (ap kind_of e) (λ z. absurd (omega arith)))
  unrefused (or_right_first e) = none_of (plain_past 7 (λ z. omega arith) _ refl (λ z. omega arith) (ap kind_of e))
  unrefused (or_right_second e) = none_of (plain_past 8 (λ z. omega arith) _ refl (λ z. omega arith) (ap kind_of e))
  unrefused (or_left h e) = none_of (named_past 9 (λ z. omega arith) _ _ refl h tt (ap kind_of e) (λ z. absurd (omega arith)))
  unrefused (says_right e) = none_of (plain_past 10 (λ z. omega arith) _ refl (λ z. omega arith) (ap kind_of e))
  unrefused (says_left h e t) = none_of (served_past h e t)
