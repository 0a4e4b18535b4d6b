-- The laws that the proofs of several functions, or of a long one, cite. Assumes nothing.
pub mod Tests
pub mod TestedCounts
