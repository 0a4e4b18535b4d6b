-- `test::test_with` meets its contract: the goal's mark for the proving side, and then the statements' for the given
-- side. Assumes nothing.
use Rattle.std.proofs.Common.{false, arith, ◌≡◌, sym, ap, ◌∙◌, ℕ, Bool, List, length, take, map}
use lib.ListN.{length-replicate}
use Rattle.logic.specs.Sides.{Side, proving, given}
use Rattle.table.specs.Tests.{entries, SizedTable}
use Rattle.table.specs.Spelled.{spelled, spell, spell_all}
use Rattle.table.proofs.Answers.{sizes}
use Rattle.table.proofs.Entries.{length_entries_equal}
use Rattle.steps.specs.Figure1.{same}
use Rattle.independence.specs.Test.{proving_says}
use Rattle.independence_check.specs.SideMarks.{MarkedFor}
use Rattle.independence_check.proofs.Marks.{mark_of}
use Rattle.independence_check.proofs.Statements.{in_goal, not_in_goal}
use Rattle.independence_check.proofs.test.test_with.Goals as goal

-- The table has F entries,
as_many : (hs ss : List ℕ) → SizedTable hs ss → length (entries hs ss) ≡ length hs
as_many hs ss sized = length_entries_equal hs ss (sizes hs ss sized).0

-- and so the first F marks are those of all formulas, for either side.
all_marks :
    (s : Side) (K : ℕ) (hs ss : List ℕ) (marks : List Bool) → SizedTable hs ss → MarkedFor s K hs ss marks
    → take (length hs) marks ≡ map (proving_says same K s) (spelled (entries hs ss))
all_marks s K hs ss marks sized marked = ap (λ n. take n marks) (sym (as_many hs ss sized)) ∙ marked

pub mark_sides-requires : goal.mark_sides-requires
mark_sides-requires g c =
    let many = as_many c.args.table.heads.now c.args.table.seconds.now c.requires.sized_table in record {
      proving_room = omega (arith, length-replicate g.row.N false);
      given_room = omega (arith, length-replicate g.row.N false);
    }

pub returns-then-is_set : goal.returns-then-is_set
returns-then-is_set g c =
    let a = c.args in
    let K = a.k.0 in
    let es = entries a.table.heads.now a.table.seconds.now in
    let sized = c.requires.sized_table in
    let marks = all_marks proving K a.table.heads.now a.table.seconds.now _ sized c.mark_sides.ensures.proving_after in
    in_goal K (spell_all es a.statements.now) (spell es a.goal)
    (c.is_set.ensures ∙ mark_of K (spelled es) proving a.goal marks) c.if-is_set.true

pub in_some_statement-requires : goal.in_some_statement-requires
in_some_statement-requires g c =
    let a = c.args in
    let sized = c.requires.sized_table in
    all_marks given a.k.0 a.table.heads.now a.table.seconds.now _ sized c.mark_sides.ensures.given_after

pub returns : goal.returns
returns g c =
    let a = c.args in
    let K = a.k.0 in
    let es = entries a.table.heads.now a.table.seconds.now in
    let sized = c.requires.sized_table in
    let marks = all_marks proving K a.table.heads.now a.table.seconds.now _ sized c.mark_sides.ensures.proving_after in
    not_in_goal K (spell_all es a.statements.now) (spell es a.goal)
    (c.is_set.ensures ∙ mark_of K (spelled es) proving a.goal marks) c.if-is_set.false c.in_some_statement.ensures
