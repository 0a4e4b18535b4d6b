-- The theorems whose statements are in specs/, and the lemmas behind them.
pub mod SameProofs
pub mod Unmentioned
pub mod Test
pub mod Answer
pub mod StepsUnread
pub mod Small
pub mod SameWords
pub mod Figure1
pub mod Samples
