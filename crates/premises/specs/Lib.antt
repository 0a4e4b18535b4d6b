-- What a step leaves to prove, in the machine's words. The meaning of a step, and how many premises a rule has, is in
-- the crate `steps`.
pub mod Premises
