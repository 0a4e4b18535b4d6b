-- The laws that the proofs of the walk's functions cite. Assumes nothing.
pub mod Turns
pub mod Walks
pub mod Held
pub mod Many
