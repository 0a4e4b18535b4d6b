-- The theorems of specs/, and the lemmas behind them.
pub mod Position
pub mod Once
pub mod Subformulas
pub mod Counted
pub mod Table
pub mod Prepared
pub mod Laid
pub mod Steps
pub mod Renamed
pub mod Spelt
pub mod Record
pub mod Released
pub mod Each
pub mod Exchange
pub mod Exchanged
pub mod Figure1
pub mod Samples
