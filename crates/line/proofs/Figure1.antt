-- The same at "the same K" (specs/Figure1.antt). Assumes nothing.
use Rattle.steps.specs.Figure1.{same}
use Rattle.line.specs.Figure1.{LineOfCall, OneLine, LineOfGrant, WholeLine, WholeExchangeLine, WholeIndependenceLine}
use Rattle.line.proofs.Printed as Every

pub line_of_call : LineOfCall
line_of_call = Every.line_of_call same

pub one_line : OneLine
one_line = Every.one_line same

pub line_of_grant : LineOfGrant
line_of_grant = Every.line_of_grant same

pub whole_line : WholeLine
whole_line = Every.whole_line same

pub whole_exchange_line : WholeExchangeLine
whole_exchange_line = Every.whole_exchange_line same

pub whole_independence_line : WholeIndependenceLine
whole_independence_line = Every.whole_independence_line same
