-- The theorems whose statements are in specs/.
pub mod Release
pub mod OldReleases
pub mod Demands
pub mod Figure1
pub mod Deputies
pub mod ReleaseSamples
pub mod Samples
pub mod EachRule
