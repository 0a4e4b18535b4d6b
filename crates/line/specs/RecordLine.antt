-- "The first word of the line is granted or refused for a record .. After granted stand the count and the signers ..
-- One blank parts the words and a line feed ends the line." (01) Proved in proofs/LineFits.antt. Assumes nothing.
use Rattle.std.specs.Prelude.{ℕ, ◌≤◌, ◌<◌, ◌+◌, ◌*◌, List, [], ◌∷◌, ◌++◌, length, take, Err}
use Rattle.basics.specs.Membership.{◌∈◌}
use Rattle.basics.specs.Limits.{most_statements}
use Rattle.text.specs.Ascii.{ascii}
use Rattle.text.specs.Decimal.{decimal}
use Rattle.record.specs.Verdict.{RecordVerdict, Granted, Refused}
use Rattle.record.specs.Promises.{Small}
use Rattle.line.specs.RefusedLine.{refused_line}

-- numbers in decimal, each after a blank
unfoldable pub listed : List ℕ → List ℕ
listed [] = []
listed (k ∷ ks) = ascii " " ++ decimal k ++ listed ks

-- the line for an answer; after granted stand the first `count` words of the list that was lent, as far as it goes
unfoldable pub record_line : RecordVerdict → List ℕ → List ℕ
record_line (Granted count) signers = ascii "granted " ++ decimal count ++ listed (take count signers) ++ ascii "\n"
record_line (Err refusal) signers = refused_line refusal.number refusal.place

-- Every line of a record's answer fits into so many bytes: a count of three digits, and 256 signers of five.
abbrev pub most_line : ℕ
most_line = 8 + 3 + most_statements * 6 + 1

abbrev pub LineFits : Type 0
LineFits = (v : RecordVerdict) (signers : List ℕ) → Small v → ((k : ℕ) → k ∈ signers → k < 65536) → length (record_line v signers) ≤ most_line
