-- The meaning of step words: one machine for tests 9 to 15 of document 01, the words of a derivation, the theorem that
-- the machine closes on exactly these, and the trace of a run, for any test on principals and any limit on depth; then
-- 01's own (Figure1), and samples. Definitions, then the statements of theorems, to be read in this order. The proofs
-- are in proofs/.
pub mod Verdict
pub mod Obligation
pub mod Applies
pub mod Reasons
pub mod Needs
pub mod Rules
pub mod Step
pub mod Run
pub mod Steps
pub mod Stops
pub mod Parts
pub mod Alike
pub mod Words
pub mod Carried
pub mod Runs
pub mod Trace
pub mod PremiseCounts
pub mod ByWord
pub mod Naming
pub mod OverTable
pub mod Answer
pub mod Figure1
pub mod Samples
pub mod EachRule
