-- The theorems whose statements are in specs/, and the laws that everything above leans on: Asked has what a Boolean
-- test asks, Past what is past the cases of a match.
pub mod Choice
pub mod Membership
pub mod Once
pub mod Rising
pub mod First
pub mod Asked
pub mod Past
pub mod Refusals
pub mod Order
pub mod Written
pub mod LimitsAre
pub mod Words
