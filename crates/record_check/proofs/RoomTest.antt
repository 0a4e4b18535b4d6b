-- 8 as the code makes it. Room for S is room for the signers, who are no more. Assumes nothing.
use Prim.Native.Nat.{ℕ, ◌≤◌, ◌<◌}
use native.Mathlib.Omega.{arith}
use mathlib.Core.Path.{◌≡◌, sym, ◌∙◌}
use mathlib.Core.List.{List, [], ◌∷◌}
use lib.ListN.{length}
use borrow.Author.Tests.{lt-ltb, le-ltb}
use Rattle.basics.specs.Tested.{Tested, Passed, Refused}
use Rattle.basics.specs.Refusals.{first_refusal}
use Rattle.basics.proofs.Refusals.{applies_at_0, goes_on_at_0, none_left}
use Rattle.table.specs.Tests.{entries}
use Rattle.steps.specs.Naming.{named_numbers, is_says_left}
use Rattle.signers_write.specs.Arrays.{arrays_signers}
use Rattle.signers.proofs.Joined.{no_more_than_statements}
use Rattle.record_check.specs.Parts.{room_test}

module _ (heads seconds statements steps : List ℕ) (room : ℕ) where
  abbrev all : Tested
  all = first_refusal (room_test heads seconds statements steps room ∷ [])

  pub refused_8 : room < length (arrays_signers heads seconds statements steps) → Refused 8 0 ≡ all
  refused_8 short = sym (applies_at_0 8 [] (lt-ltb _ _ short))

  pub passed_8 : length (arrays_signers heads seconds statements steps) ≤ room → Passed ≡ all
  passed_8 enough = sym (goes_on_at_0 8 [] (le-ltb _ _ enough) ∙ none_left)

  pub passed_by_S : length statements ≤ room → Passed ≡ all
  passed_by_S enough =
      let few = no_more_than_statements (entries heads seconds) statements (named_numbers is_says_left steps) in
      passed_8 (omega arith)
