-- What the programs print for a file of document 01: "the same K" for code 11. Contracts and samples cite it from here.
-- Proved in proofs/Figure1.antt. Assumes nothing.
use Rattle.std.specs.Prelude.{ℕ, List}
use Rattle.steps.specs.Figure1.{same}
use Rattle.line.specs.Printed as Every

abbrev pub printed_line : List ℕ → List ℕ
printed_line file = Every.printed_line same file

abbrev pub LineOfCall : Type 0
LineOfCall = Every.LineOfCall same

abbrev pub OneLine : Type 0
OneLine = Every.OneLine same

abbrev pub LineOfGrant : Type 0
LineOfGrant = Every.LineOfGrant same

abbrev pub WholeLine : Type 0
WholeLine = Every.WholeLine same

abbrev pub WholeExchangeLine : Type 0
WholeExchangeLine = Every.WholeExchangeLine same

abbrev pub WholeIndependenceLine : Type 0
WholeIndependenceLine = Every.WholeIndependenceLine same
