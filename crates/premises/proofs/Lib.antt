-- The laws that the proofs of the walk and of the goals cite. Assumes nothing.
pub mod Counts
