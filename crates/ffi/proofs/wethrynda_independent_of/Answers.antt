-- `wethrynda_independent_of` meets its contract: the verdict is `independence_answer`'s, which is within its bounds.
-- Assumes nothing.
use Rattle.std.proofs.Common.{sym, subst}
use Rattle.independence.specs.Promises.{Small}
use Rattle.independence.proofs.Figure1.{answers_small}
use Rattle.ffi.proofs.wethrynda_independent_of.Goals as goal

pub independence_code-requires : goal.independence_code-requires
independence_code-requires c = subst Small (sym c.independent_of-verdict.ensures) (answers_small _ _)
