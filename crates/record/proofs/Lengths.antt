-- How long the parts of a file are: where the sizes fit its length, each is as long as its size says. Assumes nothing.
use Prim.Native.Nat.{ℕ}
use mathlib.Core.List.{List}
use mathlib.Core.Path.{◌≡◌}
use lib.ListN.{length}
use Rattle.file.proofs.LayoutLaws.{parts_whole}
use Rattle.table.specs.Tests.{SizedTable}
use Rattle.table.proofs.TableTests as Table
use Rattle.record.specs.Layout.{record_layout, formulas, heads, seconds, table}
use Rattle.record.specs.Proof.{Sized}
use Rattle.record.proofs.LayoutIs.{sized}

module _ (file : List ℕ) (s : Sized file) where
  pub length_heads : length (heads file) ≡ formulas file
  length_heads = parts_whole record_layout file ((sized file).1 s) 0

  pub length_seconds : length (seconds file) ≡ formulas file
  length_seconds = parts_whole record_layout file ((sized file).1 s) 1

  pub length_table : length (table file) ≡ formulas file
  length_table = Table.length_table (heads file) (seconds file) length_heads length_seconds

  -- The table has a size that 2 allows.
  pub sized_table_lem : SizedTable (heads file) (seconds file)
  sized_table_lem = Table.sized_table_lem (heads file) (seconds file) length_heads length_seconds s.in_range.some_formulas s.in_range.few_formulas
