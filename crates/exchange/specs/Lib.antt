-- The exchange file of document 01, in the order of its sentences: the layout, the answer test by test, the proofs that
-- a file carries; then what each refusal says, demand 3 over a table, and what is promised, for any test on principals;
-- the same for Figure 1; and the samples.
pub mod Layout
pub mod Verdict
pub mod Answer
pub mod Proofs
pub mod Reasons
pub mod Force
pub mod Promises
pub mod Figure1
pub mod Samples
