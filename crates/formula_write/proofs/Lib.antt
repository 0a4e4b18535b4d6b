-- The laws behind the code.
pub mod Filled
pub mod Operands
pub mod Lengths
