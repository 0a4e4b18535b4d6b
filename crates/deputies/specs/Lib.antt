-- "Who speaks for whom" (02, job 14): the relation, the test that decides it, what is promised of them, and samples.
pub mod SpeaksFor
pub mod Promises
pub mod Samples
