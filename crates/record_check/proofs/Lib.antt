-- The laws behind the code.
pub mod PartTests
pub mod RoomTest
pub mod StepTest
pub mod Contents
pub mod Slices
pub mod Whole
pub mod Samples
