-- The laws behind the code.
pub mod ArrayTests
pub mod StepTest
pub mod Contents
pub mod Slices
pub mod Whole
