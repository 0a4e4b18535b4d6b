-- The invariant of the loop of `by_head::chain`: the entries from i on are chained.
use Rattle.table_check.specs.Chains.{Chained}
use Rattle.table_check.proofs.by_head.chain.Given as goal

abbrev pub invariant-loop-i : goal.invariant-loop-i
invariant-loop-i l = Chained l.heads l.first l.next l.i
