-- The theorems whose statements are in specs/, and the proofs of the functions.
pub mod Trace
pub mod Samples
pub mod Stack
pub mod Written
