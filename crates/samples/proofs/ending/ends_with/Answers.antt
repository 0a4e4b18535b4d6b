-- `ending::ends_with` meets its contract: the library compares the ending with the last part. Assumes nothing.
use Rattle.std.proofs.Common.{◌∙◌}
use Rattle.samples.proofs.Same.{pointwise_same}
use Rattle.samples.proofs.ending.ends_with.Goals as goal

pub returns : goal.returns
returns c = c.ends_with.ensures.value ∙ pointwise_same _ c.args.ending.now
