-- The line for the answer of the test whether a principal can matter (02, job 5): `independent`, `not independent`, or
-- a refusal's line as 01 has it. Proved in proofs/LineFits.antt. Assumes nothing.
use Rattle.std.specs.Prelude.{ℕ, ◌≤◌, List, length, Err}
use Rattle.text.specs.Ascii.{ascii}
use Rattle.independence.specs.Verdict.{IndependenceVerdict, Independent, NotIndependent, Refused}
use Rattle.independence.specs.Promises.{Small}
use Rattle.line.specs.RefusedLine.{refused_line}
use Rattle.line.specs.RecordLine.{most_line}

unfoldable pub independence_line : IndependenceVerdict → List ℕ
independence_line Independent = ascii "independent\n"
independence_line NotIndependent = ascii "not independent\n"
independence_line (Err refusal) = refused_line refusal.number refusal.place

-- Where a line of a record's answer fits, one of these does.
abbrev pub IndependenceLineFits : Type 0
IndependenceLineFits = (v : IndependenceVerdict) → Small v → length (independence_line v) ≤ most_line
