-- The theorems whose statements are in specs/, and the lemmas behind them.
pub mod LayoutIs
pub mod Lengths
pub mod Keeps
pub mod Answered
pub mod Force
pub mod Carries
pub mod Equal
pub mod Positions
pub mod Reasons
pub mod Kept
pub mod NeverSixOrEight
pub mod Small
pub mod Longer
pub mod Figure1
pub mod Samples
