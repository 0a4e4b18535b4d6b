-- The theorems of specs/, and the lemmas behind them.
pub mod Statements
pub mod Joined
pub mod Each
pub mod Samples
