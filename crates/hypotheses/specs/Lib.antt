-- How lent slots stand for hypotheses, and what a walk leaves of them. The hypotheses of a step are in the crate
-- `steps`.
pub mod Slots
pub mod Trail
pub mod Samples
