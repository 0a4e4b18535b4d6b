-- `wethrynda_check_exchange` meets its contract: the verdict is `exchange_answer`'s, which is within its bounds.
-- Assumes nothing.
use Rattle.std.proofs.Common.{sym, subst}
use Rattle.exchange.specs.Promises.{Small}
use Rattle.exchange.proofs.Figure1.{answers_small}
use Rattle.ffi.proofs.wethrynda_check_exchange.Goals as goal

pub exchange_code-requires : goal.exchange_code-requires
exchange_code-requires c = subst Small (sym c.check_exchange-verdict.ensures) (answers_small _)
