-- `rules::step::apply` meets its contract: what its caller says is all that test 12 can answer. Assumes nothing.
use Rattle.std.proofs.Common.{rules}
use Rattle.rules.proofs.step.apply.Goals as goal

pub returns : goal.returns
returns c = c.choose.ensures c.args.held (λ answer is. search rules)
