-- How large an answer is, and the answer for longer files (specs/Promises.antt, `AnswersSmall`, `LongerFile`). Assumes
-- nothing.
use Prim.Native.Nat.{ℕ, suc}
use native.Mathlib.Omega.{arith}
use mathlib.Core.Bool.{Bool, true, false}
use mathlib.Core.Path.{◌≡◌, refl, sym, ap, subst, ◌∙◌}
use mathlib.Core.List.{List, [], ◌∷◌}
use lib.ListN.{take, drop}
use lib.Dec.{leb}
use Rattle.std.specs.Prelude.{Err}
use Rattle.basics.specs.Tested.{Tested}
use Rattle.basics.specs.Tested as Outcome
use Rattle.basics.specs.Limits.{most_principals}
use Rattle.basics.specs.Refusals.{Test, test, at0, first_refusal, unless_refused}
use Rattle.basics.proofs.Choice.{pick_cases}
use Rattle.basics.proofs.Refusals.{joined_refused, joined_passed}
use Rattle.file.specs.Layout.{in_range}
use Rattle.file.proofs.LayoutLaws.{too_long, longer_refused}
use Rattle.record.specs.Layout.{record_layout, most_bytes}
use Rattle.record.specs.Answer.{tests_to7}
use Rattle.record.specs.Promises as Record-promises
use Rattle.record.specs.Proof.{stated_by, goal_of}
use Rattle.record.proofs.Answered.{answer_refused}
use Rattle.record.proofs.LayoutIs.{bounded}
use Rattle.record.proofs.Longer.{refused_alike}
use Rattle.record.proofs.Small as Record-small
use Rattle.independence.specs.Verdict.{IndependenceVerdict, Refused}
use Rattle.independence.specs.Test.{is_independent}
use Rattle.independence.specs.Answer.{principal_outside, tests, verdict, independence_answer}
use Rattle.independence.specs.Promises.{Small, AnswersSmall, LongerFile}

module _ (speaks : ℕ → ℕ → Bool) (file : List ℕ) (K : ℕ) where
  abbrev answered : Tested → IndependenceVerdict
  answered t = unless_refused t (verdict speaks file K)

  verdict_small : Small (verdict speaks file K)
  verdict_small = pick_cases Small (is_independent speaks K (stated_by file) (goal_of file)) (λ e. tt) (λ e. tt)

  -- 17 alone
  last_small : (outside : Bool) → Small (answered (first_refusal (test 17 (at0 outside) ∷ [])))
  unfolding first_refusal
  last_small true = (omega arith, omega arith, omega arith)
  last_small false = verdict_small

  -- 1 to 7 refuse as they refuse a record.
  small : (t : Tested) → first_refusal (tests_to7 file) ≡ t → Small (answered (first_refusal (tests file K)))
  small Outcome.Passed e =
      subst (λ (t : Tested). Small (answered t))
      (sym (joined_passed (tests_to7 file) (test 17 (principal_outside K) ∷ []) e)) (last_small (leb most_principals K))
  small (Err r) e =
      let as-record = (answer_refused speaks file 0 r.number r.place).1 (joined_refused (tests_to7 file) _ e) in
      let (some, few, within) = subst Record-promises.Small as-record (Record-small.answers_small speaks file 0) in
      subst (λ (t : Tested). Small (answered t))
      (sym (joined_refused (tests_to7 file) (test 17 (principal_outside K) ∷ []) e)) (some, omega arith, within)

pub answers_small : (speaks : ℕ → ℕ → Bool) → AnswersSmall speaks
unfolding independence_answer
answers_small speaks file K = small speaks file K (first_refusal (tests_to7 file)) refl

pub longer_file : (speaks : ℕ → ℕ → Bool) → LongerFile speaks
unfolding independence_answer
longer_file speaks file K long =
    let front : List ℕ = take (suc most_bytes) file in
    let rest : List Test = drop 3 (tests file K) in
    refused_alike (in_range record_layout file) (verdict speaks file K) (verdict speaks front K)
    (too_long record_layout bounded file _ refl long rest)
    ∙ ap (λ (t : Tested). unless_refused t (verdict speaks front K))
    (longer_refused record_layout bounded file long rest (drop 3 (tests front K)))
