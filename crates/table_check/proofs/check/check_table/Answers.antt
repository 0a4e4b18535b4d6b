-- `table_check::check::check_table` meets its contract: each answer is a case of `table_tests`, and 2 leaves the sizes
-- that 4 and 5 need. Assumes nothing.
use Rattle.std.proofs.Common.{sym, ◌∙◌}
use Rattle.table.proofs.Answers.{sizes, refused_2, refused_4, refused_5, passed}
use Rattle.table_check.proofs.AfterFour.{after_four}
use Rattle.table_check.proofs.check.check_table.Goals as goal

pub returns-then-not-is_sized : goal.returns-then-not-is_sized
returns-then-not-is_sized c = sym (refused_2 _ _ (sym c.is_sized.ensures ∙ c.if-not-is_sized.true))

pub returns-in-Some : goal.returns-in-Some
returns-in-Some c =
    let passed_2 = sym c.is_sized.ensures ∙ c.if-not-is_sized.false in
    sym (refused_4 _ _ passed_2 _ (sym c.wrong_entry.ensures ∙ c.in-Some.is))

pub repeated_entry-requires : goal.repeated_entry-requires
repeated_entry-requires c =
    let passed_2 = sym c.is_sized.ensures ∙ c.if-not-is_sized.false in
    let (alike, few) = sizes _ _ passed_2 in
    after_four _ _ alike few (sym c.wrong_entry.ensures ∙ c.in_default.is)

pub returns-in-Some-repeated_entry : goal.returns-in-Some-repeated_entry
returns-in-Some-repeated_entry c =
    let passed_2 = sym c.is_sized.ensures ∙ c.if-not-is_sized.false in
    let passed_4 = sym c.wrong_entry.ensures ∙ c.in_default.is in
    sym (refused_5 _ _ passed_2 _ passed_4 (sym c.repeated_entry.ensures ∙ c.in-Some-repeated_entry.is))

pub returns : goal.returns
returns c =
    let passed_2 = sym c.is_sized.ensures ∙ c.if-not-is_sized.false in
    let passed_4 = sym c.wrong_entry.ensures ∙ c.in_default.is in
    sym (passed _ _ passed_2 passed_4 (sym c.repeated_entry.ensures ∙ c.in_default-repeated_entry.is))
