-- "The first word of the line is .. equal or refused for an exchange." (01) Proved in proofs/LineFits.antt. Assumes
-- nothing.
use Rattle.std.specs.Prelude.{ℕ, ◌≤◌, List, length, Err}
use Rattle.text.specs.Ascii.{ascii}
use Rattle.exchange.specs.Verdict.{ExchangeVerdict, Equal, Refused}
use Rattle.exchange.specs.Promises.{Small}
use Rattle.line.specs.RefusedLine.{refused_line}
use Rattle.line.specs.RecordLine.{most_line}

-- the line for an answer
unfoldable pub exchange_line : ExchangeVerdict → List ℕ
exchange_line Equal = ascii "equal\n"
exchange_line (Err refusal) = refused_line refusal.number refusal.place

-- Where a line of a record's answer fits, one of an exchange's does.
abbrev pub ExchangeLineFits : Type 0
ExchangeLineFits = (v : ExchangeVerdict) → Small v → length (exchange_line v) ≤ most_line
