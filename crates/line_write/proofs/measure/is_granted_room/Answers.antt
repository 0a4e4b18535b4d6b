-- `measure::is_granted_room` meets its contract: what the parts of a grant's line leave tells whether it has room.
-- Assumes nothing.
use Rattle.line_write.proofs.Room.{granted_room}
use Rattle.line_write.proofs.measure.is_granted_room.Goals as goal

pub returns : goal.returns
returns c =
    let a = c.args in
    granted_room a.room a.count a.signers.now c.saturating_sub.ensures c.less_decimal-counted.ensures
    c.less_listed.ensures
