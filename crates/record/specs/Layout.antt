-- "A file of 16-bit words, low byte first .. Sizes come first: F formulas (1 to 4,096), S statements (0 to 256), N
-- steps (1 to 16,384), and the goal's formula number. Then two parallel arrays of F words each, heads and seconds. Then
-- S formula numbers, the statements. Then N step words." (01) Each is read as far as a file goes, so that it is
-- something for every file. Assumes nothing.
use Rattle.std.specs.Prelude.{ℕ, ◌+◌, ◌*◌, ◌≡◌, List, [], ◌∷◌}
use Rattle.basics.specs.Limits.{most_formulas, most_statements, most_steps}
use Rattle.file.specs.Words.{word_at, part}
use Rattle.file.specs.Layout as Every
use Rattle.file.specs.Layout.{Layout, range, unranged, part_of}
use Rattle.table.specs.declared.entry.Entry.{Entry}
use Rattle.table.specs.Tests.{entries}
use Rattle.steps.specs.Naming.{named_numbers, is_says_left}
use Rattle.signers.specs.Signers as S

-- F, S, N and the goal; the parts have F, F, S and N words
abbrev pub record_layout : Layout
record_layout = record {
  fields = range 1 most_formulas ∷ range 0 most_statements ∷ range 1 most_steps ∷ unranged ∷ [];
  parts = 0 ∷ 0 ∷ 1 ∷ 2 ∷ [];
}

-- the sizes F, S and N, and the goal
abbrev pub formulas : List ℕ → ℕ
formulas file = word_at file 0

abbrev pub statement_count : List ℕ → ℕ
statement_count file = word_at file 1

abbrev pub step_count : List ℕ → ℕ
step_count file = word_at file 2

abbrev pub goal : List ℕ → ℕ
goal file = word_at file 3

-- the arrays
abbrev pub heads : List ℕ → List ℕ
heads file = part_of record_layout file 0

abbrev pub seconds : List ℕ → List ℕ
seconds file = part_of record_layout file 1

abbrev pub statements : List ℕ → List ℕ
statements file = part_of record_layout file 2

abbrev pub steps : List ℕ → List ℕ
steps file = part_of record_layout file 3

-- the length in bytes that a file's sizes ask for, and that of the longest record
abbrev pub size : List ℕ → ℕ
size file = Every.bytes record_layout file

abbrev pub most_bytes : ℕ
most_bytes = Every.most_bytes record_layout

-- The same in 01's numbers: where each array stands, and "The length is 2 × (4 + 2F + S + N) bytes, at most 49,672."
-- Proved in proofs/LayoutIs.antt.
pub record LayoutIs (file : List ℕ) : Type 0 where
  pub heads_at : heads file ≡ part file 4 (formulas file)
  pub seconds_at : seconds file ≡ part file (4 + formulas file) (formulas file)
  pub statements_at : statements file ≡ part file (4 + 2 * formulas file) (statement_count file)
  pub steps_at : steps file ≡ part file (4 + 2 * formulas file + statement_count file) (step_count file)
  pub size_is : size file ≡ 2 * (4 + 2 * formulas file + statement_count file + step_count file)
  pub most_is : most_bytes ≡ 49672
  pub least_is : Every.least_bytes record_layout ≡ 8

-- the table taken apart
abbrev pub table : List ℕ → List Entry
table file = entries (heads file) (seconds file)

-- the formulas that some says left names
abbrev pub says_left_numbers : List ℕ → List ℕ
says_left_numbers file = named_numbers is_says_left (steps file)

-- "A signer is now a principal K with a statement K says A that some says-left step names." (02, job 3)
abbrev pub signers : List ℕ → List ℕ
signers file = S.signers (table file) (statements file) (says_left_numbers file)
