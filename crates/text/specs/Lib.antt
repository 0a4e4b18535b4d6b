-- Writing text into lent bytes: what a text's bytes are, what a number's decimal digits are, and the place after what
-- is written. Definitions, then the statements of theorems, to be read in this order. The proofs are in proofs/.
pub mod Ascii
pub mod Fill
pub mod Decimal
pub mod Parse
pub mod Samples
