-- Files that 1 to 3 let pass, of one table and one goal, meet 1 to 7 alike where they meet 7 alike. Assumes nothing.
use Prim.Native.Nat.{ℕ}
use mathlib.Core.Path.{◌≡◌, sym, ap, ap₂, ◌∙◌}
use mathlib.Core.List.{List, [], ◌∷◌}
use lib.ListN.{length}
use Rattle.basics.specs.Refusals.{test}
use Rattle.table.specs.Tests.{entries, wrong_entry, repeated_entry}
use Rattle.record.specs.Layout.{formulas, goal, heads, seconds, table}
use Rattle.record.specs.Answer.{goal_outside, statement_outside, tests_to7}
use Rattle.record.specs.Proof.{Sized}
use Rattle.record.proofs.Keeps.{none_to_3_is}
use Rattle.record.proofs.Lengths.{length_heads}

module _ {file other : List ℕ} (fits : Sized file) (fits' : Sized other) (hs : heads file ≡ heads other) where
  -- Their tables are as long.
  pub same_formulas : formulas file ≡ formulas other
  same_formulas = sym (length_heads file fits) ∙ ap length hs ∙ length_heads other fits'

  -- 1 to 3 don't apply to either, and 4 to 6 look at what is the same.
  pub same_to_7 : seconds file ≡ seconds other → goal file ≡ goal other
      → statement_outside file ≡ statement_outside other → tests_to7 file ≡ tests_to7 other
  same_to_7 ss g seventh =
      let (one, (two, (three, _))) = (none_to_3_is file).1 fits in
      let (one', (two', (three', _))) = (none_to_3_is other).1 fits' in
      let first = one ∙ sym one' in
      let second = two ∙ sym two' in
      let third = three ∙ sym three' in
      let fourth : wrong_entry (table file) ≡ wrong_entry (table other) = ap wrong_entry (ap₂ entries hs ss) in
      let fifth = ap₂ repeated_entry hs ss in
      let sixth : goal_outside file ≡ goal_outside other = cc (same_formulas, g) in
      λ i.
      test 1 (first i) ∷ test 2 (second i) ∷ test 3 (third i) ∷ test 4 (fourth i) ∷ test 5 (fifth i) ∷ test 6 (sixth i)
      ∷ test 7 (seventh i) ∷ []
