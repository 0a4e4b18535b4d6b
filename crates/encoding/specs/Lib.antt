-- The way from a derivation to a file: every derivation within the limits of 01 has a record that is granted, every
-- exchange of derivations within them has a file that is found equal, and nothing else has. Definitions and the
-- statements of theorems, to be read in this order. The proofs are in proofs/.
pub mod Bounds
pub mod Subformulas
pub mod Table
pub mod Laid
pub mod Record
pub mod Exchange
pub mod Figure1
pub mod Samples
