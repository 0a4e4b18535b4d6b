-- What classes and planners may rely on beyond 00 and 02: samples for which no steps at all are a proof, each with its
-- countermodel; folding standing orders in parts and for every reel; all of it on one page, and for Figure 1.
pub mod NoSteps
pub mod NotEqual
pub mod Folding
pub mod Lessons
pub mod Figure1
