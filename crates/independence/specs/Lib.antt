-- "Before a contractor may sign, the planner wants to know whether his papers could touch a goal." (02, job 5) The test
-- on propositions; what it answers for a file; proofs that stay, over derivations; what is promised; all this for
-- Figure 1; and samples. Sides are in logic/specs/Sides.antt.
pub mod Test
pub mod Verdict
pub mod Answer
pub mod SameProofs
pub mod Unmentioned
pub mod Promises
pub mod Figure1
pub mod Samples
