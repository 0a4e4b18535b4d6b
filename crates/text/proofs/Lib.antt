-- The theorems whose statements are in specs/, and the lemmas behind the code. What stands above leans on Ascii, Places
-- and Digits besides.
pub mod Ascii
pub mod Split
pub mod Places
pub mod Digits
pub mod Parsing
pub mod Samples
