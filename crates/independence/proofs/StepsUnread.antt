-- The answer is decided without the steps (specs/Promises.antt, `StepsUnread`). Assumes nothing.
use Prim.Native.Nat.{ℕ}
use mathlib.Core.Bool.{Bool}
use mathlib.Core.Path.{◌≡◌, ap, ap₂}
use mathlib.Core.List.{List, [], ◌∷◌, ◌++◌}
use Rattle.basics.specs.Refusals.{Test, test}
use Rattle.table.specs.Tests.{entries}
use Rattle.record.specs.Layout.{goal, heads, seconds, statements, table}
use Rattle.record.specs.Answer.{statement_outside}
use Rattle.record.specs.Proof.{Sized}
use Rattle.record.proofs.SameTests.{same_formulas, same_to_7}
use Rattle.independence.specs.Answer.{principal_outside, tests, verdict, independence_answer}
use Rattle.independence.specs.Promises.{StepsUnread}

module _ (file changed : List ℕ) (fits : Sized file) (fits' : Sized changed) (hs : heads file ≡ heads changed)
    (ss : seconds file ≡ seconds changed) (ns : statements file ≡ statements changed) (g : goal file ≡ goal changed)
    (K : ℕ) where
  same_table : table file ≡ table changed
  same_table = ap₂ entries hs ss

  -- 7 too looks at what is the same.
  same_tests : tests file K ≡ tests changed K
  same_tests =
      let seventh : statement_outside file ≡ statement_outside changed = cc (same_formulas fits fits' hs, ns) in
      ap (λ (ts : List Test). ts ++ (test 17 (principal_outside K) ∷ [])) (same_to_7 fits fits' hs ss g seventh)

  same_verdict : (speaks : ℕ → ℕ → Bool) → verdict speaks file K ≡ verdict speaks changed K
  same_verdict speaks = cc (same_table, ns, g)

pub steps_unread : (speaks : ℕ → ℕ → Bool) → StepsUnread speaks
unfolding independence_answer
steps_unread speaks file changed fits fits' hs ss ns g K =
    let same = same_tests file changed fits fits' hs ss ns g K in
    let answer = same_verdict file changed fits fits' hs ss ns g K speaks in
    cc (same, answer)
