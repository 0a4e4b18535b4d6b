-- `measure::less_signer` meets its contract: a blank has one byte. Assumes nothing.
use Rattle.text.specs.Ascii.{ascii}
use Rattle.text.specs.Decimal.{decimal}
use Rattle.line_write.proofs.Room.{left_then}
use Rattle.line_write.proofs.measure.less_signer.Goals as goal

pub returns : goal.returns
unfolding ascii
returns c = left_then _ (ascii " ") (decimal c.args.signer) c.saturating_sub.ensures c.less_decimal.ensures
