-- `exchange_line::write_exchange_line` meets its contract: each answer's line is written whole or not at all.
-- Assumes nothing.
use Rattle.std.proofs.Common.{ap}
use Rattle.text.specs.Ascii.{ascii}
use Rattle.line.specs.ExchangeLine.{exchange_line}
use Rattle.line.proofs.Line.{owed_same}
use Rattle.line_write.proofs.exchange_line.write_exchange_line.Goals as goal

pub returns-in-Ok : goal.returns-in-Ok
unfolding ascii exchange_line
returns-in-Ok c =
    let w = c.write_whole.ensures in
    let owed =
    owed_same c.args.line.now (ap exchange_line c.in-Ok.is) (w.value, (w.line_after, w.upper_bound)) in
    record { value = owed.0; line_after = owed.1.0; upper_bound = owed.1.1 }

pub returns-in-Err : goal.returns-in-Err
unfolding exchange_line
returns-in-Err c =
    let w = c.write_refused.ensures in
    let owed =
    owed_same c.args.line.now (ap exchange_line c.in-Err.is) (w.value, (w.line_after, w.upper_bound)) in
    record { value = owed.0; line_after = owed.1.0; upper_bound = owed.1.1 }
