-- `table_check::order::is_well_formed` meets its contract: it asks what `bounded` says test 4 asks. Assumes nothing.
use Rattle.table_check.proofs.Bounds.{asked}
use Rattle.table_check.proofs.order.is_well_formed.Goals as goal

pub returns : goal.returns
returns c =
    let a = c.args in
    asked a.i a.head a.second c.upper-kind.ensures c.lower.ensures c.first_bound.ensures c.second_bound.ensures
