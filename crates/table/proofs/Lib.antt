-- The theorems whose statements are in specs/, and the lemmas behind them and behind the code, here and in
-- `table_check`. What stands above leans on Shapes and Upward besides.
pub mod Entries
pub mod Ordered
pub mod Spelled
pub mod Upward
pub mod Distinct
pub mod Shapes
pub mod Number
pub mod Answers
pub mod Passed
pub mod Unlike
pub mod TableTests
pub mod Reasons
pub mod Samples
