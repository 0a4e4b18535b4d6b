-- The laws behind the code.
pub mod Names
pub mod Named
pub mod Given
pub mod LineLengths
pub mod Arrays
pub mod Whole
