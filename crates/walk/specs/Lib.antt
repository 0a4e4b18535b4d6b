-- What the private functions of the walk mean: the walk as an obligation of the machine. The machine itself, and what
-- the check of proofs answers, is in the crate `steps`, and how slots hold hypotheses in `hypotheses`.
pub mod Walks
