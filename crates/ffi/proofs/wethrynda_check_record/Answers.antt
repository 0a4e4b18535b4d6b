-- `wethrynda_check_record` meets its contract: the verdict is `record_answer`'s, which is within its bounds. Assumes
-- nothing.
use Rattle.std.proofs.Common.{sym, subst}
use Rattle.record.specs.Promises.{Small}
use Rattle.record.proofs.Figure1.{answers_small}
use Rattle.ffi.proofs.wethrynda_check_record.Goals as goal

pub answer_code-requires : goal.answer_code-requires
answer_code-requires c = subst Small (sym c.check_record-verdict.ensures.value) (answers_small _ _)
