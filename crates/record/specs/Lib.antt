-- The record of document 01, in the order of its sentences: the layout, the answer test by test, and what a call leaves
-- in the lent list; then demands 1 and 2 in plain words, who carried, what is promised, and papers alone, for any test
-- on principals; the same for Figure 1; the samples, and the answer that 01 gave before 02's job 3.
pub mod Layout
pub mod Verdict
pub mod Answer
pub mod ListAfter
pub mod Proof
pub mod Carries
pub mod Reasons
pub mod Promises
pub mod Papers
pub mod Figure1
pub mod Samples
pub mod Former
