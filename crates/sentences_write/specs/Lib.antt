-- What the code of the crate speaks of besides the text itself, for private functions.
pub mod NamedAt
pub mod Arrays
