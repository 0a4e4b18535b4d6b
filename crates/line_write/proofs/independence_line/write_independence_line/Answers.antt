-- `independence_line::write_independence_line` meets its contract: each answer's line is written whole or not at all.
-- Assumes nothing.
use Rattle.std.proofs.Common.{ap, Bool, Ok, ◌∙◌}
use Rattle.text.specs.Ascii.{ascii}
use Rattle.line.specs.IndependenceLine.{independence_line}
use Rattle.line.proofs.Line.{owed_same}
use Rattle.line_write.proofs.independence_line.write_independence_line.Goals as goal

pub returns-in-Ok-true : goal.returns-in-Ok-true
unfolding ascii independence_line
returns-in-Ok-true c =
    let w = c.write_whole.ensures in
    let owed =
    owed_same c.args.line.now (ap independence_line (c.in-Ok-true.is ∙ ap (λ (b : Bool). Ok b) c.in-Ok-true.field-0-test)) (w.value, (w.line_after, w.upper_bound)) in
    record { value = owed.0; line_after = owed.1.0; upper_bound = owed.1.1 }

pub returns-in-Ok-false : goal.returns-in-Ok-false
unfolding ascii independence_line
returns-in-Ok-false c =
    let w = c.write_whole-in-Ok-false.ensures in
    let owed =
    owed_same c.args.line.now (ap independence_line (c.in-Ok-false.is ∙ ap (λ (b : Bool). Ok b) c.in-Ok-false.field-0-test)) (w.value, (w.line_after, w.upper_bound)) in
    record { value = owed.0; line_after = owed.1.0; upper_bound = owed.1.1 }

pub returns-in-Err : goal.returns-in-Err
unfolding independence_line
returns-in-Err c =
    let w = c.write_refused.ensures in
    let owed =
    owed_same c.args.line.now (ap independence_line c.in-Err.is) (w.value, (w.line_after, w.upper_bound)) in
    record { value = owed.0; line_after = owed.1.0; upper_bound = owed.1.1 }
