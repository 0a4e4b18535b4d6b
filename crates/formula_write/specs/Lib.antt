-- What the code of the crate speaks of besides the text itself: an entry's operands, and lengths that stop growing.
pub mod Operand
pub mod Length
