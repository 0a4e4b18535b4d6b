-- The theorems whose statements are in specs/, and the lemmas behind them.
pub mod Read
pub mod Told
pub mod Lines
pub mod Text
pub mod Answer
pub mod Refused
pub mod Small
pub mod Printed
pub mod Figure1
pub mod Samples
pub mod Feeds
