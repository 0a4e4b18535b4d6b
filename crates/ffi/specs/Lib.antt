-- Answers as one number, for C and Rust.
pub mod RefusalCode
pub mod Code
pub mod ExchangeCode
pub mod IndependenceCode
pub mod SentencesCode
