-- The laws behind the code.
pub mod Listed
pub mod Room
