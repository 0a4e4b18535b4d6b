-- `rules::step::open` meets its contract: test 12 is answered by the slots. Assumes nothing.
use Rattle.std.proofs.Common.{rules}
use Rattle.rules.proofs.Tests.{step_opens}
use Rattle.rules.proofs.step.open.Goals as goal

pub returns : goal.returns
returns c =
    step_opens _ _ _ _ _ c.if-depth-gt-MOST_DEPTH.false c.upper.ensures c.lower-n.ensures
    (c.choose.ensures _ (λ answer is. search rules))
