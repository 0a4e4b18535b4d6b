-- The ground floor: what every other crate may stand on, and what stands on none. Definitions and the statements of
-- theorems, to be read in this order. The proofs are in proofs/.
pub mod Limits
pub mod Choice
pub mod Membership
pub mod Once
pub mod Rising
pub mod Place
pub mod First
pub mod Tested
pub mod Refusals
pub mod Order
pub mod Written
pub mod Word
