-- The invariant of the loop of `by_head::repeated_in_chain`: the search along the chain has come to entry j, or to its
-- end.
use Rattle.std.proofs.Common.{get_or, ◌-◌}
use Rattle.table_check.proofs.Chains.{InChain}
use Rattle.table_check.proofs.by_head.repeated_in_chain.Given as goal

abbrev pub invariant-loop-j : goal.invariant-loop-j
invariant-loop-j l = InChain l.table.heads.now l.table.seconds.now (get_or l.table.heads.now l.i 0) l.bound l.seen l.found l.j

abbrev pub decreases-loop-j : goal.decreases-loop-j
decreases-loop-j l = l.found - l.j
