-- `table_check::by_index::take_in` meets its contract: each turn goes on along the path, or finds an entry that is the
-- same; at the end of the path entry i is written. Assumes nothing.
use Rattle.std.proofs.Common.{arith, sym, ◌∙◌}
use Rattle.table_check.proofs.Search.{search_rises, search_steps, search_finds, search_ends, search_writes}
use Rattle.table_check.proofs.by_index.take_in.Goals as goal

pub returns-then-are_same : goal.returns-then-are_same
returns-then-are_same c =
    search_finds _ _ _ _ _ c.requires.1 _ _ _ c.loop-link.invariant.searched c.loop-link-test.true
    (sym c.are_same.ensures ∙ c.if-are_same.true)

pub loop-link-smaller : goal.loop-link-smaller
loop-link-smaller c =
    let l = c.loop-link in
    omega (arith, search_rises _ _ _ _ _ c.requires.1 _ _ _ l.invariant.searched c.loop-link-test.true)

pub loop-link-preserved : goal.loop-link-preserved
loop-link-preserved c =
    let l = c.loop-link in
    let s = l.invariant.searched in
    let some = c.loop-link-test.true in
    record {
      searched = search_steps _ _ _ _ _ c.requires.1 _ _ _ s some (sym c.are_same.ensures ∙ c.if-are_same.false);
      few_passed = omega (arith, search_rises _ _ _ _ _ c.requires.1 _ _ _ s some, l.invariant.few_passed);
    }

pub returns : goal.returns
returns c =
    let s = c.loop-link.invariant.searched in (
      search_ends _ _ _ _ _ c.requires.1 _ _ _ s (omega arith),
      search_writes _ _ _ _ _ c.requires.1 _ _ _ s (omega arith) c.requires.0.in_heads,
    )
