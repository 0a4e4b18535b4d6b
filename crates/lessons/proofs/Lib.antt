-- The theorems whose statements are in specs/, and the lemmas behind them.
pub mod Each
pub mod NoSteps
pub mod NotEqual
pub mod Folding
pub mod Lessons
pub mod Figure1
