-- `sentences_write::lines::fill_lines` meets its contract: one line more is written, and at the end all are. Assumes
-- nothing.
use Rattle.std.proofs.Common.{◌≡◌}
use Rattle.std.proofs.lemmas.Iterator.{YieldsList-from_slice, YieldsList-from_zip}
use Rattle.std.proofs.lemmas.Iterator.Consumers.{YieldsList-from_enumerate, YieldsList-end}
use Rattle.text.proofs.Places.{fill_then}
use Rattle.table.specs.Tests.{entries}
use Rattle.goals.specs.Kept.{line_at}
use Rattle.sentences.specs.Sentences.{line_text}
use Rattle.formula_write.proofs.Filled.{filled_as, filled_none}
use Rattle.sentences_write.proofs.Given.{line_of, text_of, text_more, text_whole}
use Rattle.sentences_write.proofs.lines.fill_lines.Goals as goal

pub loop-i-init : goal.loop-i-init
loop-i-init c = filled_none _ 0

pub loop-i-preserved : goal.loop-i-preserved
loop-i-preserved c =
    let es = entries c.args.table.heads.now c.args.table.seconds.now in
    let s = c.in-Some in
    let line = c.fill_line-end.ensures in
    let text : line_text s.i (line_at es s.field-0-1-0-0.now c.goal_at-goal.result)
    ≡ line_of es (s.i, ((s.field-0-1-0-0.now, s.field-0-1-0-1.now), s.field-0-1-1.now)) = cc in
    filled_as _ _ (text_more es c.loop-i.yielded (s.i, ((s.field-0-1-0-0, s.field-0-1-0-1), s.field-0-1-1)))
    (fill_then _ _ (text_of es c.loop-i.yielded) _ c.loop-i.invariant
    (filled_as c.loop-i.text c.loop-i.end text (line.text_after, line.value)))

pub returns : goal.returns
returns c =
    let a = c.args in
    let all = YieldsList-end
    (YieldsList-from_enumerate
    (YieldsList-from_zip
    (YieldsList-from_zip (YieldsList-from_slice a.steps.now cc) (YieldsList-from_slice a.numbers.now cc))
    (YieldsList-from_slice a.affirms.now cc)) cc)
    c.loop-i.yielded _ c.loop-i.yielded_by c.next.result c.next.new.self c.in-None.is c.next.ensures.steps in
    let text = filled_as _ _ (text_whole (entries a.table.heads.now a.table.seconds.now) a.steps.now a.numbers.now a.affirms.now _ all.0)
    c.loop-i.invariant in
    record { text_after = text.0; value = text.1 }
