-- The lines that the programs print for an answer, and for a file, with any test on principals and for Figure 1; and
-- samples of lines.
pub mod Line
pub mod RefusedLine
pub mod RecordLine
pub mod ExchangeLine
pub mod IndependenceLine
pub mod Printed
pub mod Figure1
pub mod Samples
