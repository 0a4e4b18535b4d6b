-- The theorems whose statements are in specs/.
pub mod Order
pub mod Sentences
pub mod WhoCarried
pub mod Samples
pub mod Requests
pub mod Figure1
