-- The theorems of specs/, and the laws behind the code.
pub mod Marked
pub mod Flagged
pub mod Samples
