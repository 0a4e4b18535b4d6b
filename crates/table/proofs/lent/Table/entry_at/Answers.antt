-- `Table::entry_at` meets its contract: below both lengths it takes apart, past either there is no entry. Assumes
-- nothing.
use Rattle.std.proofs.Common.{arith, sym, ◌∙◌}
use Rattle.table.proofs.Entries.{entry_at_lem, no_entry}
use Rattle.table.proofs.lent.Table.entry_at.Goals as goal
use Rattle.table.proofs.lent.Table.entry_at.Goals.{else-i-self-via-then-i-self+else-i-self-2, else-i-self-via-else-i-self}

pub returns-then-i-self-2 : goal.returns-then-i-self-2
returns-then-i-self-2 c = c.take_apart.ensures ∙ sym (entry_at_lem _ _ _ (omega arith) (omega arith))

pub returns-else-i-self : goal.returns-else-i-self
returns-else-i-self c =
    sym (no_entry _ _ _ (elim c.else-i-self.branch [
      | else-i-self-via-then-i-self+else-i-self-2 w ↦ omega arith
      | else-i-self-via-else-i-self w ↦ omega arith
    ]))
