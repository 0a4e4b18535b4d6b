-- The laws behind the code.
pub mod Marks
pub mod Statements
pub mod Whole
pub mod Slices
