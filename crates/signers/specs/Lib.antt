-- The signers of statements over a table, what holds of them, and samples.
pub mod Signers
pub mod Each
pub mod Samples
