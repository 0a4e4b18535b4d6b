-- `test::in_statement` meets its contract: the statement's mark for the given side, and whose it is. Assumes nothing.
use Rattle.std.proofs.Common.{◌∙◌}
use Rattle.logic.specs.Sides.{given}
use Rattle.table.specs.Tests.{entries}
use Rattle.table.specs.Spelled.{spelled}
use Rattle.independence_check.proofs.Marks.{mark_of}
use Rattle.independence_check.proofs.Statements.{own_of, in_marked, in_unmarked}
use Rattle.independence_check.proofs.test.in_statement.Goals as goal

pub returns-then-is_set : goal.returns-then-is_set
returns-then-is_set c =
    let a = c.args in
    let es = entries a.table.heads.now a.table.seconds.now in
    in_marked a.k.0 es a.n (c.is_set.ensures ∙ mark_of a.k.0 (spelled es) given a.n c.requires) c.if-is_set.true
    (own_of a.k.0 es a.n c.entry_at.ensures c.is_own.ensures)

pub returns-else-is_set : goal.returns-else-is_set
returns-else-is_set c =
    let a = c.args in
    let es = entries a.table.heads.now a.table.seconds.now in
    in_unmarked a.k.0 es a.n (c.is_set.ensures ∙ mark_of a.k.0 (spelled es) given a.n c.requires) c.if-is_set.false
