-- The answer by what the tests come to, and by independence (specs/Promises.antt, `IndependentExactly`,
-- `NotIndependentExactly`, `RefusedExactly`). Assumes nothing.
use Prim.Native.Nat.{ℕ, ◌<◌, ◌≤◌}
use native.Mathlib.Omega.{arith}
use mathlib.Core.Bool.{Bool, true, false, true≢false}
use mathlib.Core.Path.{◌≡◌, refl, sym}
use mathlib.Core.Logic.Iff
use mathlib.Core.Logic.{◌↔◌, ◌⊎◌, inl, inr, ⊎_elim}
use mathlib.Core.List.{List, [], ◌∷◌}
use Rattle.std.specs.Prelude.{Err}
use Rattle.basics.specs.Place.{At}
use Rattle.basics.specs.Tested.{Tested}
use Rattle.basics.specs.Tested as Outcome
use Rattle.basics.specs.Choice.{pick}
use Rattle.basics.specs.Limits.{most_principals}
use Rattle.basics.specs.Membership.{holds}
use Rattle.basics.specs.Refusals.{test, first_refusal, unless_refused}
use Rattle.basics.proofs.Asked.{at_most, not_at_most, at0_at, at0_nowhere}
use Rattle.basics.proofs.Order.{OneApplies, one_of_three, Follows, distinct, refused_in_order}
use Rattle.basics.proofs.Refusals.{not_passed, passed_by_all, none_joined}
use Rattle.logic.specs.Principals.{Relation, Decides}
use Rattle.record.specs.Answer.{tests_to7}
use Rattle.record.specs.Proof.{Keeps, stated_by, goal_of}
use Rattle.record.proofs.Keeps.{none_to_7}
use Rattle.record.proofs.Kept.{reasons_to_7}
use Rattle.independence.specs.Verdict.{Independent, NotIndependent, Refused}
use Rattle.independence.specs.Test.{is_independent}
use Rattle.independence.specs.Answer.{principal_outside, tests, independence_answer}
use Rattle.independence.specs.Promises.{IndependentExactly, NotIndependentExactly, independence_order, IndependenceReason, of_record, principal_outside as principal_outside_reason, RefusedExactly}
use Rattle.independence.proofs.Test.{independent_is, touching_is}

-- ---- what the tests come to

-- The answers are three.
pub not_independent : Independent ≡ NotIndependent → ⊥
not_independent e = let z : ◌≡◌ {A = ℕ} 0 1 = cc in omega arith

pub not_answered : {number p : ℕ} → Refused number p ≡ Independent → ⊥
not_answered e = let z : ◌≡◌ {A = ℕ} 0 1 = cc in omega arith

pub not_denied : {number p : ℕ} → Refused number p ≡ NotIndependent → ⊥
not_denied e = let z : ◌≡◌ {A = ℕ} 0 1 = cc in omega arith

says_independent : (t : Tested) (b : Bool) → unless_refused t (pick b Independent NotIndependent) ≡ Independent
    ↔ ((t ≡ Outcome.Passed) × (b ≡ true))
says_independent Outcome.Passed true = (λ e. (refl, refl), λ e. refl)
says_independent Outcome.Passed false = (λ e. absurd (not_independent (sym e)), λ (_, e). absurd (true≢false (sym e)))
says_independent (Err r) b = (λ e. absurd (not_answered e), λ (e, _). absurd (not_passed e))

denies : (t : Tested) (b : Bool) → unless_refused t (pick b Independent NotIndependent) ≡ NotIndependent
    ↔ ((t ≡ Outcome.Passed) × (b ≡ false))
denies Outcome.Passed true = (λ e. absurd (not_independent e), λ (_, e). absurd (true≢false e))
denies Outcome.Passed false = (λ e. (refl, refl), λ e. refl)
denies (Err r) b = (λ e. absurd (not_denied e), λ (e, _). absurd (not_passed e))

refuses : (t : Tested) (b : Bool) (number p : ℕ)
    → unless_refused t (pick b Independent NotIndependent) ≡ Refused number p ↔ t ≡ Outcome.Refused number p
refuses Outcome.Passed true number p = (λ e. absurd (not_answered (sym e)), λ e. absurd (not_passed (sym e)))
refuses Outcome.Passed false number p = (λ e. absurd (not_denied (sym e)), λ e. absurd (not_passed (sym e)))
refuses (Err r) b number p = (λ e. cc, λ e. cc)

-- ---- independent, or not

module _ (file : List ℕ) (K : ℕ) where
  -- None of 1 to 7 and 17 applies exactly when the file keeps the layout and its limits, and so does the principal.
  pub passed_is : first_refusal (tests file K) ≡ Outcome.Passed ↔ (Keeps file × (K < most_principals))
  passed_is =
      let (pass, passes) = passed_by_all (tests file K) in
      let (part, join) = none_joined (tests_to7 file) (test 17 (principal_outside K) ∷ []) in
      let (keeps, none) = none_to_7 file in
      let (below, nowhere) = at0_nowhere _ (not_at_most most_principals K) in (
        λ e. let (to_7, (last, _)) = part (pass e) in (keeps to_7, below last),
        λ (k, l). passes (join (none k, (nowhere l, tt))),
      )

module _ (speaks : ℕ → ℕ → Bool) (R : Relation) (decides : Decides speaks R) where
  pub independent_exactly : IndependentExactly speaks R
  unfolding independence_answer
  independent_exactly file K =
      let (says, said) = says_independent (first_refusal (tests file K))
      (is_independent speaks K (stated_by file) (goal_of file)) in
      let (to, from) = independent_is speaks R decides K (stated_by file) (goal_of file) in (
        λ e. let (passed, t) = says e in let (keeps, below) = (passed_is file K).0 passed in (keeps, below, to t),
        λ (keeps, below, i). said ((passed_is file K).1 (keeps, below), from i),
      )

  pub not_independent_exactly : NotIndependentExactly speaks R
  unfolding independence_answer
  not_independent_exactly file K =
      let (says, said) = denies (first_refusal (tests file K)) (is_independent speaks K (stated_by file) (goal_of file)) in
      let (to, from) = touching_is speaks R decides K (stated_by file) (goal_of file) in (
        λ e. let (passed, t) = says e in let (keeps, below) = (passed_is file K).0 passed in (keeps, below, to t),
        λ (keeps, below, i). said ((passed_is file K).1 (keeps, below), from i),
      )

-- ---- refused

module _ (speaks : ℕ → ℕ → Bool) (file : List ℕ) (K : ℕ) where
  -- The reasons are the tests, where they apply.
  module _ (number p : ℕ) where
    joined : OneApplies (tests file K) number p
        ↔ (OneApplies (tests_to7 file) number p ⊎ (OneApplies (test 17 (principal_outside K) ∷ []) number p ⊎ ⊥))
    joined = one_of_three (tests_to7 file) (test 17 (principal_outside K) ∷ []) [] number p

    seventeen : principal_outside K ≡ At p ↔ ((p ≡ 0) × (most_principals ≤ K))
    seventeen = at0_at _ p (at_most most_principals K)

    to_test : IndependenceReason speaks file K number p → OneApplies (tests file K) number p
    to_test (of_record few r) = joined.1 (inl ((reasons_to_7 speaks file 0 number p).0 (few, r)))
    to_test (principal_outside_reason n z l) = joined.1 (inr (inl (inl (sym n, seventeen.1 (z, l)))))

    of_last : OneApplies (test 17 (principal_outside K) ∷ []) number p → IndependenceReason speaks file K number p
    of_last (inl (n, at)) = let (z, l) = seventeen.0 at in principal_outside_reason (sym n) z l
    of_last (inr none) = absurd none

    from_test : OneApplies (tests file K) number p → IndependenceReason speaks file K number p
    from_test one =
        ⊎_elim (λ t. let (few, r) = (reasons_to_7 speaks file 0 number p).1 t in of_record few r)
        (⊎_elim of_last absurd) (joined.0 one)

  pub reasons : (number p : ℕ) → IndependenceReason speaks file K number p ↔ OneApplies (tests file K) number p
  reasons number p = (to_test number p, from_test number p)

  -- They stand in the order.
  follows : Follows independence_order (tests file K)
  follows = inl (refl, inl (refl, inl (refl, inl (refl, inl (refl, inl (refl, inl (refl, inl (refl, tt))))))))

is_distinct : distinct independence_order ≡ true
unfolding distinct holds
is_distinct = refl

pub refused_exactly : (speaks : ℕ → ℕ → Bool) → RefusedExactly speaks
unfolding independence_answer
refused_exactly speaks file K number p =
    Iff.trans (refuses (first_refusal (tests file K)) (is_independent speaks K (stated_by file) (goal_of file)) number p)
    (refused_in_order independence_order is_distinct (tests file K) (follows speaks file K)
    (IndependenceReason speaks file K) (reasons speaks file K) number p)
