-- 1 to 3 as the code makes them (specs/Layout.antt, `tests_by`): each answer is a case. Assumes nothing.
use Prim.Native.Nat.{ℕ, ◌≤◌, ◌<◌}
use mathlib.Core.Bool.{Bool, true, false, not}
use mathlib.Core.Path.{◌≡◌, sym, ap, ◌∙◌}
use mathlib.Core.Logic.{◌≢◌}
use mathlib.Core.List.{List, [], ◌∷◌}
use lib.ListN.{length}
use lib.Dec.{eqb}
use borrow.Author.Tests.{lt-ltb, le-ltb, eq-eqb, ne_eqb}
use Rattle.basics.specs.Tested.{Passed, Refused}
use Rattle.basics.specs.Refusals.{test, at0, first_refusal}
use Rattle.basics.proofs.Refusals.{applies_at_0, goes_on_at_0, none_left}
use Rattle.file.specs.Layout.{tests_by}

module _ (file : List ℕ) (least : ℕ) (fit : Bool) (size : ℕ) where
  -- 1 applies
  pub refused_1 : length file < least → Refused 1 0 ≡ first_refusal (tests_by file least fit size)
  refused_1 less = sym (applies_at_0 1 _ (lt-ltb _ _ less))

  module _ (long : least ≤ length file) where
    -- 1 goes on to 2 and 3
    after_1 : first_refusal (tests_by file least fit size) ≡ first_refusal (test 2 (at0 (not fit)) ∷ test 3 (at0 (not (eqb (length file) size))) ∷ [])
    after_1 = goes_on_at_0 1 _ (le-ltb _ _ long)

    pub refused_2 : fit ≡ false → Refused 2 0 ≡ first_refusal (tests_by file least fit size)
    refused_2 e = sym (after_1 ∙ applies_at_0 2 _ (ap not e))

    module _ (in_range : fit ≡ true) where
      -- 2 goes on to 3
      after_2 : first_refusal (tests_by file least fit size) ≡ first_refusal (test 3 (at0 (not (eqb (length file) size))) ∷ [])
      after_2 = after_1 ∙ goes_on_at_0 2 _ (ap not in_range)

      pub refused_3 : length file ≢ size → Refused 3 0 ≡ first_refusal (tests_by file least fit size)
      refused_3 other = sym (after_2 ∙ applies_at_0 3 _ (ap not (ne_eqb _ _ other)))

      pub passed_3 : length file ≡ size → Passed ≡ first_refusal (tests_by file least fit size)
      passed_3 e = sym (after_2 ∙ goes_on_at_0 3 _ (ap not (eq-eqb _ _ e)) ∙ none_left)
