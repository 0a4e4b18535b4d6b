-- `measure::is_refused_room` meets its contract: what the parts of a refusal's line leave tells whether it has room.
-- Assumes nothing.
use Rattle.line_write.proofs.Room.{refused_room}
use Rattle.line_write.proofs.measure.is_refused_room.Goals as goal

pub returns : goal.returns
returns c =
    let a = c.args in
    refused_room a.room a.refusal.number a.refusal.place c.saturating_sub.ensures c.less_decimal-numbered.ensures
    c.saturating_sub-2.ensures c.less_decimal.ensures
