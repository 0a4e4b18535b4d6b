-- What 2 asks of F and S; and 2 and 4 to 7 as the code makes them: each answer is a case of `part_tests`. Assumes
-- nothing.
use Prim.Native.Nat.{ℕ, ◌≤◌, ◌<◌}
use mathlib.Core.Bool.{Bool, true, false, not}
use mathlib.Core.Path.{◌≡◌, refl, sym, ap, ◌∙◌}
use mathlib.Core.List.{List, [], ◌∷◌, ◌++◌}
use lib.ListN.{length}
use lib.Dec.{leb}
use borrow.Author.Tests.{le-leb, lt-leb}
use Rattle.basics.specs.Place.{Place, At, Nowhere}
use Rattle.basics.specs.Tested.{Tested, Passed, Refused}
use Rattle.basics.specs.Choice.{both}
use Rattle.basics.specs.Limits.{most_formulas, most_statements}
use Rattle.basics.specs.Refusals.{Test, test, at0, first_refusal}
use Rattle.basics.proofs.Asked.{at_most, equal, both_are}
use Rattle.basics.proofs.Refusals.{applies, goes_on, applies_at_0, goes_on_at_0, none_left, joined_refused, joined_passed}
use Rattle.file.specs.Outside.{outside}
use Rattle.table.specs.Tests.{sized, entry_tests, table_tests}
use Rattle.record_check.specs.Parts.{SizesFitExactly, part_tests}

pub sizes_fit_exactly : SizesFitExactly
sizes_fit_exactly heads seconds statements =
    let range = both_are (at_most 1 (length heads)) (at_most (length heads) most_formulas) in
    let table = both_are (equal (length heads) (length seconds)) range in
    let (to, from) = both_are table (at_most (length statements) most_statements) in (
      λ e.
          let ((alike, (some, few)), S) = to e in
          record { alike = alike; some_formulas = some; few_formulas = few; few_statements = S },
      λ f. from ((f.alike, (f.some_formulas, f.few_formulas)), f.few_statements),
    )

-- A test that asks for two things refuses as two tests do that ask for one each.
one_by_one :
    (a b : Bool) (ts : List Test)
    → first_refusal (test 2 (at0 (not (both a b))) ∷ ts)
    ≡ first_refusal (test 2 (at0 (not b)) ∷ test 2 (at0 (not a)) ∷ ts)
unfolding first_refusal
one_by_one true true ts = refl
one_by_one true false ts = refl
one_by_one false true ts = refl
one_by_one false false ts = refl

module _ (heads seconds statements : List ℕ) (goal : ℕ) where
  abbrev all : Tested
  all = first_refusal (part_tests heads seconds statements goal)

  abbrev from_7 : List Test
  from_7 = test 7 (outside (length heads) statements) ∷ []

  abbrev from_6 : List Test
  from_6 = test 6 (at0 (leb (length heads) goal)) ∷ from_7

  -- 2, of the table, 4 and 5, which `check_table` makes
  abbrev of_table : List Test
  of_table = test 2 (at0 (not (sized heads seconds))) ∷ entry_tests heads seconds

  -- 2 is asked of S first.
  S_first : all ≡ first_refusal (test 2 (at0 (not (leb (length statements) most_statements))) ∷ (of_table ++ from_6))
  S_first =
      one_by_one (sized heads seconds) (leb (length statements) most_statements) (entry_tests heads seconds ++ from_6)

  pub refused_S : most_statements < length statements → Refused 2 0 ≡ all
  refused_S many = sym (S_first ∙ applies_at_0 2 (of_table ++ from_6) (ap not (lt-leb _ _ many)))

  module _ (few : length statements ≤ most_statements) {t : Tested} (answered : t ≡ table_tests heads seconds) where
    after_S : all ≡ first_refusal (of_table ++ from_6)
    after_S = S_first ∙ goes_on_at_0 2 (of_table ++ from_6) (ap not (le-leb _ _ few))

    table_answered : t ≡ first_refusal of_table
    unfolding table_tests
    table_answered = answered

    pub refused_2_4_5 : {number p : ℕ} → t ≡ Refused number p → Refused number p ≡ all
    refused_2_4_5 e = sym (after_S ∙ joined_refused of_table from_6 (sym table_answered ∙ e))

    module _ (passed : t ≡ Passed) where
      after_5 : all ≡ first_refusal from_6
      after_5 = after_S ∙ joined_passed of_table from_6 (sym table_answered ∙ passed)

      pub refused_6 : {more : Bool} → more ≡ leb (length heads) goal → more ≡ true → Refused 6 0 ≡ all
      refused_6 asked e = sym (after_5 ∙ applies_at_0 6 from_7 (sym asked ∙ e))

      module _ {more : Bool} (asked : more ≡ leb (length heads) goal) (goal_in : more ≡ false)
          {place : Place} (found : place ≡ outside (length heads) statements)
        where
          after_6 : all ≡ first_refusal from_7
          after_6 = after_5 ∙ goes_on_at_0 6 from_7 (sym asked ∙ goal_in)

          pub refused_7 : {p : ℕ} → place ≡ At p → Refused 7 p ≡ all
          refused_7 e = sym (after_6 ∙ applies 7 [] (sym found ∙ e))

          pub passed_7 : place ≡ Nowhere → Passed ≡ all
          passed_7 none = sym (after_6 ∙ goes_on 7 [] (sym found ∙ none) ∙ none_left)
