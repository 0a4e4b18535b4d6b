-- The theorems whose statements are in specs/.
pub mod Speaks
pub mod Samples
