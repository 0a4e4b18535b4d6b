-- What a call leaves in the lent list. "The signers .. go into a lent list of 16-bit words, from its start; the words
-- after them don't change." "A refusal .. changes nothing that is lent." (01) Assumes nothing.
use Rattle.std.specs.Prelude.{ℕ, List, ◌++◌, drop, Err}
use Rattle.record.specs.Verdict.{RecordVerdict, Granted, Refused}
use Rattle.record.specs.Layout.{signers}

-- the list after a call that has this answer, where it was `before`
abbrev pub list_after : List ℕ → RecordVerdict → List ℕ → List ℕ
list_after file (Granted count) before = signers file ++ drop count before
list_after file (Err refusal) before = before
