-- 2 and 4 to 15, and 8, in one: each answer of the code is a case of `content_tests`, and so of `arrays_answer`. Assumes
-- nothing.
use Prim.Native.Nat.{ℕ}
use mathlib.Core.Path.{◌≡◌, sym, ap, ◌∙◌}
use mathlib.Core.List.{List, [], ◌∷◌}
use Rattle.basics.specs.Tested.{Tested}
use Rattle.basics.specs.Tested as Outcome
use Rattle.basics.specs.Refusals.{Test, first_refusal, unless_refused}
use Rattle.basics.proofs.Refusals.{joined_refused, joined_passed}
use Rattle.record.specs.Verdict.{RecordVerdict, Refused}
use Rattle.record_check.specs.Parts.{part_tests, room_test, step_test, content_tests, granted, arrays_answer}

module _ (heads seconds statements : List ℕ) (goal : ℕ) (steps : List ℕ) (room : ℕ) where
  abbrev all : Tested
  all = first_refusal (content_tests heads seconds statements goal steps room)

  abbrev to_7 : List Test
  to_7 = part_tests heads seconds statements goal

  abbrev only_walk : List Test
  only_walk = step_test heads seconds statements goal steps ∷ []

  abbrev only_8 : List Test
  only_8 = room_test heads seconds statements steps room ∷ []

  abbrev from_9 : List Test
  from_9 = step_test heads seconds statements goal steps ∷ only_8

  module _ {t : Tested} (parts : t ≡ first_refusal to_7) where
    pub refused_to_7 : {number p : ℕ} → t ≡ Outcome.Refused number p → Outcome.Refused number p ≡ all
    refused_to_7 e = sym (joined_refused to_7 from_9 (sym parts ∙ e))

    module _ (passed_7 : t ≡ Outcome.Passed) {u : Tested} (walk : u ≡ first_refusal only_walk) where
      after_7 : first_refusal from_9 ≡ all
      after_7 = sym (joined_passed to_7 from_9 (sym parts ∙ passed_7))

      pub refused_by_walk : {number p : ℕ} → u ≡ Outcome.Refused number p → Outcome.Refused number p ≡ all
      refused_by_walk e = sym (joined_refused only_walk only_8 (sym walk ∙ e)) ∙ after_7

      pub by_room : {v : Tested} → u ≡ Outcome.Passed → v ≡ first_refusal only_8 → v ≡ all
      by_room passed_15 listed = listed ∙ sym (joined_passed only_walk only_8 (sym walk ∙ passed_15)) ∙ after_7
