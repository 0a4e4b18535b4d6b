-- 9 to 15 as the code makes them: the verdict of `check_proof`, and 15. Assumes nothing.
use Prim.Native.Nat.{ℕ, ◌≤◌, ◌<◌}
use native.Mathlib.Omega.{arith}
use mathlib.Core.Path.{◌≡◌, refl, sym, ap, ◌∙◌}
use mathlib.Core.List.{List, [], ◌∷◌}
use lib.ListN.{length}
use Rattle.basics.specs.Tested.{Tested, Passed, Refused}
use Rattle.basics.specs.Limits.{most_depth}
use Rattle.basics.specs.Refusals.{first_refusal}
use Rattle.table.specs.Tests.{entries}
use Rattle.steps.specs.Verdict.{WalkVerdict}
use Rattle.steps.specs.Verdict as Walk
use Rattle.steps.specs.Obligation.{obligation}
use Rattle.steps.specs.Run.{run, all_used, walked}
use Rattle.steps.specs.Figure1.{same, proof_answer}
use Rattle.steps.proofs.Parts.{uses_words}
use Rattle.steps.proofs.Walked.{walk_refused, words_remain, none_remains}
use Rattle.record_check.specs.Parts.{step_test}

module _
    (heads seconds statements : List ℕ) (goal : ℕ) (steps : List ℕ) {v : WalkVerdict} (answered : v ≡ proof_answer heads seconds statements goal steps)
  where
    abbrev all : Tested
    all = first_refusal (step_test heads seconds statements goal steps ∷ [])

    -- 15 is asked of what the walk came to
    then_15 : {w : WalkVerdict} → v ≡ w → first_refusal (walked (all_used (length steps) w) ∷ []) ≡ all
    unfolding run
    then_15 e = ap (λ (z : WalkVerdict). first_refusal (walked (all_used (length steps) z) ∷ [])) (sym e ∙ answered)

    pub refused_15 : {q : ℕ} → v ≡ Walk.Closed q → q < length steps → Refused 15 q ≡ all
    refused_15 {q} e less = words_remain q (length steps) less ∙ then_15 e

    pub passed_15 : {q : ℕ} → v ≡ Walk.Closed q → length steps ≤ q → Passed ≡ all
    passed_15 {q} e end =
        let used = (uses_words same most_depth (entries heads seconds) steps 0 q (obligation statements goal ∷ []) (sym answered ∙ e)).1 in
        none_remains q (length steps) (omega arith) end ∙ then_15 e

    pub refused_9_14 : {number p : ℕ} → v ≡ Walk.Refused number p → Refused number p ≡ all
    refused_9_14 {number} {p} e = walk_refused {v = Walk.Refused number p} refl ∙ then_15 e
