-- "Write a granted record's proof as text, one line a step" (02, job 2): the text of a proposition, of a goal and of a
-- line; its line feeds; what a text tells; what a call answers and leaves; what is promised; what the program prints;
-- all this for Figure 1; and samples.
pub mod Formula
pub mod Sentences
pub mod Feeds
pub mod Told
pub mod Verdict
pub mod Answer
pub mod Promises
pub mod Printed
pub mod Figure1
pub mod Samples
