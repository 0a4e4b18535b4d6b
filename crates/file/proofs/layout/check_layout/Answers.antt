-- `file::layout::check_layout` meets its contract: each answer is a case of `tests_by`. Assumes nothing.
use Rattle.file.proofs.LayoutTests.{refused_1, refused_2, refused_3, passed_3}
use Rattle.file.proofs.layout.check_layout.Goals as goal

pub returns-then-file-least : goal.returns-then-file-least
returns-then-file-least c = refused_1 c.args.file.now c.args.least c.args.fit c.args.size c.if-file-least.true

pub returns-then-not-fit : goal.returns-then-not-fit
returns-then-not-fit c =
    let a = c.args in refused_2 a.file.now a.least a.fit a.size c.if-file-least.false c.if-not-fit.true

pub returns-then-file-size : goal.returns-then-file-size
returns-then-file-size c =
    let a = c.args in
    refused_3 a.file.now a.least a.fit a.size c.if-file-least.false c.if-not-fit.false c.if-file-size.true

pub returns : goal.returns
returns c =
    let a = c.args in
    passed_3 a.file.now a.least a.fit a.size c.if-file-least.false c.if-not-fit.false c.if-file-size.false
