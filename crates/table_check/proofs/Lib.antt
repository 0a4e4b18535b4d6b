-- The lemmas behind the code of tests 4 and 5.
pub mod Bounds
pub mod Scan
pub mod AfterFour
pub mod Trees
pub mod Search
pub mod Chains
pub mod AllChains
