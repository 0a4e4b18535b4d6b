-- `check_in` meets its contract: slots that are all 0 hold nothing, and the statements are held before the goals are
-- checked. Assumes nothing.
use Rattle.walk.proofs.Held.{holding_all, empty_zeros}
use Rattle.walk.proofs.check.check_in.Goals as goal

pub check_goals-requires : goal.check_goals-requires
check_goals-requires g c =
    let held = c.hold_all-held.ensures in
    holding_all _ c.args.statements.now (empty_zeros g.row.N) c.requires.marks held.value held.slots_after
