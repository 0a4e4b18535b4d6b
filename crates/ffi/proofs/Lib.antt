-- The theorems whose statements are in specs/, and the laws behind the code.
pub mod Refusals
pub mod Tells
pub mod ExchangeTells
pub mod IndependenceTells
pub mod SentencesTells
