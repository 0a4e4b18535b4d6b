-- Where the demands come together: what a release is, old releases after an exchange, the demands, sentence by
-- sentence, as one promise, and as 00 makes them, for Figure 1; the same with deputies; a grant and a refusal, the
-- samples of document 01 as one table, and each rule in a whole record.
pub mod Release
pub mod OldReleases
pub mod Demands
pub mod Figure1
pub mod Deputies
pub mod ReleaseSamples
pub mod Samples
pub mod EachRule
