-- "Sizes F, S1, S2, N; here N may be 0 to 16,384 and each list 0 to 256. Then heads, seconds, the first list, the
-- second list, N step words; 2 × (4 + 2F + S1 + S2 + N) bytes." (01, "The exchange file") Each is read as far as a file
-- goes, so that it is something for every file. Assumes nothing.
use Rattle.std.specs.Prelude.{ℕ, ◌+◌, ◌*◌, ◌≡◌, List, [], ◌∷◌}
use Rattle.basics.specs.Limits.{most_formulas, most_statements, most_steps}
use Rattle.file.specs.Words.{word_at, part}
use Rattle.file.specs.Layout as Every
use Rattle.file.specs.Layout.{Layout, range, part_of}
use Rattle.table.specs.declared.entry.Entry.{Entry}
use Rattle.table.specs.Tests.{entries}

-- F, S1, S2 and N; the parts have F, F, S1, S2 and N words
abbrev pub exchange_layout : Layout
exchange_layout = record {
  fields = range 1 most_formulas ∷ range 0 most_statements ∷ range 0 most_statements ∷ range 0 most_steps ∷ [];
  parts = 0 ∷ 0 ∷ 1 ∷ 2 ∷ 3 ∷ [];
}

-- the sizes F, S1, S2 and N
abbrev pub formulas : List ℕ → ℕ
formulas file = word_at file 0

abbrev pub first_count : List ℕ → ℕ
first_count file = word_at file 1

abbrev pub second_count : List ℕ → ℕ
second_count file = word_at file 2

abbrev pub step_count : List ℕ → ℕ
step_count file = word_at file 3

-- the arrays
abbrev pub heads : List ℕ → List ℕ
heads file = part_of exchange_layout file 0

abbrev pub seconds : List ℕ → List ℕ
seconds file = part_of exchange_layout file 1

abbrev pub first_list : List ℕ → List ℕ
first_list file = part_of exchange_layout file 2

abbrev pub second_list : List ℕ → List ℕ
second_list file = part_of exchange_layout file 3

abbrev pub steps : List ℕ → List ℕ
steps file = part_of exchange_layout file 4

-- the length in bytes that a file's sizes ask for, and that of the longest exchange file
abbrev pub size : List ℕ → ℕ
size file = Every.bytes exchange_layout file

abbrev pub most_bytes : ℕ
most_bytes = Every.most_bytes exchange_layout

-- The same in 01's numbers: where each array stands, and "2 × (4 + 2F + S1 + S2 + N) bytes", at most 50,184. Proved in
-- proofs/LayoutIs.antt.
pub record LayoutIs (file : List ℕ) : Type 0 where
  pub heads_at : heads file ≡ part file 4 (formulas file)
  pub seconds_at : seconds file ≡ part file (4 + formulas file) (formulas file)
  pub first_at : first_list file ≡ part file (4 + 2 * formulas file) (first_count file)
  pub second_at : second_list file ≡ part file (4 + 2 * formulas file + first_count file) (second_count file)
  pub steps_at : steps file ≡ part file (4 + 2 * formulas file + first_count file + second_count file) (step_count file)
  pub size_is : size file ≡ 2 * (4 + 2 * formulas file + first_count file + second_count file + step_count file)
  pub most_is : most_bytes ≡ 50184
  pub least_is : Every.least_bytes exchange_layout ≡ 8

-- the table taken apart
abbrev pub table : List ℕ → List Entry
table file = entries (heads file) (seconds file)
