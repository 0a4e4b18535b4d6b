-- Document 02 on one page: what each request asks for, and that it holds; samples, and what a request leaves as it was;
-- the page for Figure 1.
pub mod Order
pub mod Sentences
pub mod WhoCarried
pub mod Samples
pub mod Requests
pub mod Figure1
