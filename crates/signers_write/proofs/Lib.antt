-- The laws behind the code.
pub mod Insert
pub mod Flags
pub mod Loops
pub mod Marking
