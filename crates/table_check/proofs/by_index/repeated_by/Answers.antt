-- `table_check::by_index::repeated_by` meets its contract: each turn takes one entry more into the index, or tells that
-- it is repeated. Assumes nothing.
use Rattle.std.proofs.Common.{arith, refl}
use Rattle.basics.specs.First.{first}
use Rattle.basics.proofs.First.{first_none_more}
use Rattle.table_check.specs.Index.{is_repeated}
use Rattle.table_check.proofs.Scan.{repeated_at, repeated_nowhere}
use Rattle.table_check.proofs.by_index.repeated_by.Goals as goal

pub loop-i-init : goal.loop-i-init
unfolding first
loop-i-init c = record { indexed = c.requires.1; none_repeated = refl }

pub returns-in_default : goal.returns-in_default
returns-in_default c =
    repeated_at _ _ c.loop-i.i (omega arith) c.loop-i.invariant.none_repeated c.in_default.ensures

pub loop-i-preserved : goal.loop-i-preserved
loop-i-preserved c =
    let l = c.loop-i in
    let a = c.args in
    let (new, index) = c.in-Some.ensures in
    record {
      indexed = index;
      none_repeated = first_none_more (is_repeated a.table.heads.now a.table.seconds.now) l.i l.invariant.none_repeated new;
    }

pub returns : goal.returns
returns c = repeated_nowhere _ _ c.loop-i.i (omega arith) c.loop-i.invariant.none_repeated
